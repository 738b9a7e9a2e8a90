-- what the marks of a text say of its bytes
use Rattle.std.specs.Prelude.{◌≡◌, ◌<◌, ℕ, ◌+◌, Bool, true, false, List, [], ◌∷◌, ◌++◌, length, All}
use Rattle.gr_text.specs.Tokens.{is_space, is_blank, Mark, Word, Break, Stop, Cut, marks_of}
use Rattle.gr_text.specs.Places.{BeginsBlank}

-- spaces alone
abbrev pub IsGap : List ℕ → Type 0
IsGap bytes = All (λ b. is_space b ≡ true) bytes

-- some bytes, and no space, tab, carriage return or line feed among them
abbrev pub IsToken : List ℕ → Type 0
IsToken bytes = (0 < length bytes) × All (λ b. is_blank b ≡ false) bytes

-- the text is a gap, then these bytes, and then the rest
pub record Comes (bytes text rest : List ℕ) : Type 0 where
  pub gap : List ℕ
  pub whole : text ≡ gap ++ (bytes ++ rest)
  pub spaces : IsGap gap

-- the marks read this text, whose front is on this line: a token is a longest run of its bytes, and
-- its line's first where the line had none; a line feed ends its line; the text's end comes last
abbrev pub Reads : ℕ → Bool → List ℕ → List Mark → Type 0
Reads line first text [] = ⊥
Reads line first text (Word l f token ∷ ms) =
    (rest : List ℕ) × (Comes token text rest × IsToken token × BeginsBlank rest × (l ≡ line)
    × (f ≡ first) × Reads line false rest ms)
Reads line first text (Break l ∷ ms) =
    (rest : List ℕ) × (Comes (10 ∷ []) text rest × (l ≡ line) × Reads (line + 1) true rest ms)
Reads line first text (Stop l ∷ ms) = IsGap text × (l ≡ line) × (ms ≡ [])
Reads line first text (Cut l ∷ ms) = ⊥

-- the marks of a text that is shorter than the limit read it
abbrev pub MarksReadTheText : Type 0
MarksReadTheText =
    (limit : ℕ) (text : List ℕ) → length text < limit → Reads 1 true text (marks_of limit text)

-- and no other marks do
abbrev pub NoOtherMarksReadIt : Type 0
NoOtherMarksReadIt =
    (limit : ℕ) (text : List ℕ) (ms : List Mark) → length text < limit → Reads 1 true text ms
    → ms ≡ marks_of limit text

-- the line that a mark names
abbrev pub line_of : Mark → ℕ
line_of (Word l f token) = l
line_of (Break l) = l
line_of (Stop l) = l
line_of (Cut l) = l

-- how many lines end among the marks
abbrev pub line_ends : List Mark → ℕ
line_ends [] = 0
line_ends (Break l ∷ ms) = 1 + line_ends ms
line_ends (Word l f token ∷ ms) = line_ends ms
line_ends (Stop l ∷ ms) = line_ends ms
line_ends (Cut l ∷ ms) = line_ends ms

-- each mark names the line that is one more than the lines that end before it
abbrev pub LinesAreCounted : Type 0
LinesAreCounted =
    (limit : ℕ) (text : List ℕ) (before after : List Mark) (m : Mark) → length text < limit
    → marks_of limit text ≡ before ++ m ∷ after → line_of m ≡ 1 + line_ends before
