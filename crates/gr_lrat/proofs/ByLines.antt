-- a log is read line by line
use Rattle.std.proofs.Common.{◌≡◌, ◌∙◌, ℕ, zero, suc, ◌+◌, ◌-◌, ◌<◌, Bool, true, false, ◌&&◌, List, [], ◌∷◌, ◌++◌, length, refl, sym, ap, arith, append_assoc, inl, inr}
use Rattle.std.specs.List.{AllByRecursion}
use Rattle.std.proofs.lemmas.List.{append-nil}
use Rattle.std.proofs.lemmas.List.Elements.{recursion_from_All}
use Rattle.gr_text.specs.Tokens.{Mark, Break, Stop, is_space, is_line_feed, is_empty, ended, marks, front}
use Rattle.gr_text.proofs.Words.{spot}
use Rattle.gr_lrat.specs.Lines.{Spelling, Nothing, Spelled, Misspelt, HasNegativeHint, spelling, line_tokens, line_read}
use Rattle.gr_lrat.specs.Logs.{LogRead, AtEnd, ends, with_line, log_from, log_read}
use Rattle.gr_lrat.specs.Laws.{read_below, LogsAreReadByLines}
use Rattle.gr_lrat.proofs.Counted.{bool_cases}

-- a line that stands one line lower has a number that is greater by one
with-below : (x : Spelling) (n : ℕ) (later : LogRead)
    → with_line x (n + 1) (read_below later) ≡ read_below (with_line x n later)
with-below Nothing n later = refl
with-below (Spelled line) n later = refl
with-below Misspelt n later = refl
with-below HasNegativeHint n later = refl

-- a word that was begun ends on either line
ended-below : (line : ℕ) (first : Bool) (w : List ℕ) (ws : List (List ℕ)) (low high : List Mark)
    → ((vs : List (List ℕ)) → log_from vs low ≡ read_below (log_from vs high))
    → log_from ws (ended (line + 1) first w ++ low) ≡ read_below (log_from ws (ended line first w ++ high))
ended-below line first [] ws low high same = same ws
ended-below line first (b ∷ w) ws low high same = same (ws ++ (b ∷ w) ∷ [])

-- what is read of a text that stands one line lower
below : (text : List ℕ) (room line last : ℕ) (first : Bool) (w : List ℕ) (ws : List (List ℕ))
    → log_from ws (marks (spot (line + 1) (last + 1) first w) room text)
    ≡ read_below (log_from ws (marks (spot line last first w) room text))
below text zero line last first w ws = refl
below [] (suc room) line last first w ws =
    ended-below line first w ws (Stop (line + 1) ∷ []) (Stop line ∷ [])
    (λ vs. with-below (spelling vs) line (ends AtEnd))
below (b ∷ text) (suc room) line last first w ws = elim (bool_cases (is_line_feed b)) [
  | inl feed ↦
      let low = marks (spot (line + 1 + 1) (line + 1) true []) room text in
      let high = marks (spot (line + 1) line true []) room text in
      rw feed (
      ap (log_from ws) (append_assoc (ended (line + 1) first w) (Break (line + 1) ∷ []) low)
      ∙ ended-below line first w ws (Break (line + 1) ∷ low) (Break line ∷ high)
      (λ vs. ap (with_line (spelling vs) (line + 1)) (below text room (line + 1) line true [] [])
      ∙ with-below (spelling vs) line (log_from [] high))
      ∙ ap (λ ms. read_below (log_from ws ms)) (sym (append_assoc (ended line first w) (Break line ∷ []) high)))
  | inr plain ↦ elim (bool_cases (is_space b)) [
    | inl gap ↦ rw (plain, gap) (ended-below line first w ws
        (marks (spot (line + 1) (line + 1) (first && is_empty w) []) room text)
        (marks (spot line line (first && is_empty w) []) room text)
        (λ vs. below text room line line (first && is_empty w) [] vs))
    | inr byte ↦ rw (plain, byte) (below text room line line first (w ++ b ∷ []) ws)
  ]
]

-- where a byte may be looked at, the line of the last one is of no matter
last-free : (text : List ℕ) (room line last other : ℕ) (first : Bool) (w : List ℕ)
    → marks (spot line last first w) (suc room) text ≡ marks (spot line other first w) (suc room) text
last-free [] room line last other first w = refl
last-free (b ∷ text) room line last other first w = refl

-- what is read behind the first line feed
behind : (rest : List ℕ) (room : ℕ) → 0 < room
    → log_from [] (marks (spot 2 1 true []) room rest) ≡ read_below (log_read room rest)
behind rest zero some = absurd (omega arith)
behind rest (suc room) some =
    ap (log_from []) (last-free rest room 2 1 2 true []) ∙ below rest (suc room) 1 1 true [] []

-- a word that was begun is the next token of its line
ended-split : (n : ℕ) (first : Bool) (w : List ℕ) (ws : List (List ℕ)) (ms ts : List Mark)
    (made : List (List ℕ) → LogRead) → ((vs : List (List ℕ)) → log_from vs ms ≡ made (vs ++ line_tokens ts))
    → log_from ws (ended n first w ++ ms) ≡ made (ws ++ line_tokens (ended n first w ++ ts))
ended-split n first [] ws ms ts made same = same ws
ended-split n first (b ∷ w) ws ms ts made same =
    same (ws ++ (b ∷ w) ∷ []) ∙ ap made (append_assoc ws ((b ∷ w) ∷ []) (line_tokens ts))

-- what is read where a line ends
abbrev EndsLineAs : ℕ → ℕ → List ℕ → LogRead → Type 0
EndsLineAs n r t later =
    (last : ℕ) (first : Bool) (w : List ℕ) (ws : List (List ℕ))
    → log_from ws (marks (spot n last first w) (suc r) t)
    ≡ with_line (spelling (ws ++ line_tokens (ended n first w ++ Stop n ∷ []))) n later

-- a line is read up to where it ends
first-line : (line t : List ℕ) (r n : ℕ) (later : LogRead) → EndsLineAs n r t later
    → (last : ℕ) (first : Bool) (w : List ℕ) (ws : List (List ℕ))
    → AllByRecursion (λ b. is_line_feed b ≡ false) line
    → log_from ws (marks (spot n last first w) (length line + suc r) (line ++ t))
    ≡ with_line (spelling (ws ++ line_tokens (marks (spot n last first w) (length line + 1) line))) n later
first-line [] t r n later end last first w ws plain =
    let same : 0 + suc r ≡ suc r = omega arith in
    rw same (end last first w ws)
first-line (b ∷ line) t r n later end last first w ws plain =
    let feed : is_line_feed b ≡ false = plain.0 in
    let room : suc (length line) + suc r ≡ suc (length line + suc r) = omega arith in
    let room' : suc (length line) + 1 ≡ suc (length line + 1) = omega arith in
    elim (bool_cases (is_space b)) [
      | inl gap ↦ rw (room, room', feed, gap) (ended-split n first w ws
          (marks (spot n n (first && is_empty w) []) (length line + suc r) (line ++ t))
          (marks (spot n n (first && is_empty w) []) (length line + 1) line)
          (λ vs. with_line (spelling vs) n later)
          (λ vs. first-line line t r n later end n (first && is_empty w) [] vs plain.1))
      | inr byte ↦ rw (room, room', feed, byte)
          (first-line line t r n later end n first (w ++ b ∷ []) ws plain.1)
    ]

-- a line feed ends a line, and the text's end does
feed-ends : (n r : ℕ) (rest : List ℕ)
    → EndsLineAs n r (10 ∷ rest) (log_from [] (marks (spot (n + 1) n true []) r rest))
feed-ends n r rest last first w ws =
    let ms = marks (spot (n + 1) n true []) r rest in
    ap (log_from ws) (append_assoc (ended n first w) (Break n ∷ []) ms)
    ∙ ended-split n first w ws (Break n ∷ ms) (Stop n ∷ []) (λ vs. with_line (spelling vs) n (log_from [] ms))
    (λ vs. ap (λ us. with_line (spelling us) n (log_from [] ms)) (sym (append-nil vs)))

text-ends : (n r : ℕ) → EndsLineAs n r [] (ends AtEnd)
text-ends n r last first w ws =
    ended-split n first w ws (Stop n ∷ []) (Stop n ∷ []) (λ vs. with_line (spelling vs) n (ends AtEnd))
    (λ vs. ap (λ us. with_line (spelling us) n (ends AtEnd)) (sym (append-nil vs)))

pub by-lines : LogsAreReadByLines
by-lines most line plain =
    let each = recursion_from_All (λ b. is_line_feed b ≡ false) line plain in
    record {
      first = λ rest room.
          let more = most - (length line + 1) in
          let split : most ≡ length line + suc more = omega arith in
          let some : 0 < more = omega arith in
          ap (λ m. log_read m (line ++ 10 ∷ rest)) split
          ∙ first-line line (10 ∷ rest) more 1 _ (feed-ends 1 more rest) 1 true [] [] each
          ∙ ap (with_line (line_read line) 1) (behind rest more some);
      last = λ room.
          let more = most - (length line + 1) in
          let split : most ≡ length line + suc more = omega arith in
          ap (λ m. log_read m line) split
          ∙ ap (λ t. log_from [] (marks front (length line + suc more) t)) (sym (append-nil line))
          ∙ first-line line [] more 1 (ends AtEnd) (text-ends 1 more) 1 true [] [] each;
    }
