-- the marks of words with a blank behind each
use Rattle.std.proofs.Common.{◌≡◌, ◌∙◌, ℕ, zero, suc, ◌+◌, ◌<◌, Bool, true, false, ◌&&◌, List, [], ◌∷◌, ◌++◌, length, refl, arith, ◌⊎◌, inl, inr}
use Rattle.std.proofs.lemmas.List.{append_assoc, append-nil, length-append}
use Rattle.gr_text.specs.Tokens.{is_space, is_line_feed, Mark, Word, Break, Stop, Spot, ended, made_known, beyond, marks}
use Rattle.gr_text.proofs.Words.{IsWord, spot, word_feed, word_space}
use Rattle.gr_text.proofs.Words.{all_marks as marks_to_end}
use Rattle.gr_dimacs.specs.Tokens.{Ending, Whole, ending}

-- all marks of a text: there is room for its end
abbrev pub all_marks : Spot → List ℕ → List Mark
all_marks s text = marks_to_end 0 s text

-- a word and a space
pub marks-space : (w text : List ℕ) (line last : ℕ) (first : Bool) → IsWord w →
    all_marks (spot line last first []) (w ++ 32 ∷ text) ≡ Word line first w ∷ all_marks
    (spot line line (first && false) []) text
marks-space w text line last first word = word_space 0 w text line last first word

-- a word and a line's end
pub marks-feed : (w text : List ℕ) (line last : ℕ) (first : Bool) → IsWord w →
    all_marks (spot line last first []) (w ++ 10 ∷ text) ≡ Word line first w ∷ Break
    line ∷ all_marks (spot (line + 1) line true []) text
marks-feed w text line last first word = word_feed 0 w text line last first word

-- a text ends
pub record EndsWhole (end : Ending) : Type 0 where
  pub line : ℕ
  pub is : end ≡ Whole line

ended-over : (line : ℕ) (first : Bool) (word : List ℕ) (ms : List Mark) →
    ending (ended line first word ++ ms) ≡ ending ms
ended-over line first [] ms = refl
ended-over line first (b ∷ word) ms = refl

bool_cases : (b : Bool) → (b ≡ true) ⊎ (b ≡ false)
bool_cases true = inl refl
bool_cases false = inr refl

known-over : (line last : ℕ) (first : Bool) (word : List ℕ) (b : ℕ) (ms : List Mark) →
    ending (made_known (spot line last first word) b ++ ms) ≡ ending ms
known-over line last first word b ms = elim (bool_cases (is_line_feed b)) [
  | inl feed ↦ rw (feed, append_assoc (ended line first word) (Break line ∷ []) ms)
      (ended-over line first word (Break line ∷ ms))
  | inr plain ↦ elim (bool_cases (is_space b)) [
    | inl gap ↦ rw (plain, gap) (ended-over line first word ms)
    | inr byte ↦ rw (plain, byte) refl
  ]
]

ends : (text : List ℕ) (s : Spot) (room : ℕ) → length text < room →
    EndsWhole (ending (marks s room text))
ends text s zero h = absurd (omega arith)
ends [] s (suc room) h =
    record { line = s.line; is = ended-over s.line s.first s.word (Stop s.line ∷ []) }
ends (b ∷ text) s (suc room) h =
    let rest = ends text (beyond s b) room (omega arith) in
    record {
      line = rest.line;
      is =
          known-over s.line s.last s.first s.word b (marks (beyond s b) room text) ∙ rest.is;
    }

pub ends-whole : (text : List ℕ) (s : Spot) → EndsWhole (ending (all_marks s text))
ends-whole text s = ends text s (length text + 1) (omega arith)
