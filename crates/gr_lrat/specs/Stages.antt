-- a proof log as it is read, token by token
use Rattle.std.specs.Prelude.{◌≡◌, ℕ, ◌≤◌, ◌<◌, Bool, false, if◌then◌else◌, List, [], ◌∷◌, Option, Result, Ok, Err}
use Rattle.std.specs.Option.{option_map}
use Rattle.gr_text.specs.Tokens.{Mark, Word, Break, Stop, Cut}
use Rattle.gr_io.specs.Pieces.{Rose}
use Rattle.gr_text.specs.Places.{Place, known, taken, coming}
use Rattle.gr_text.specs.Stands.{Stand, Goes}
use Rattle.gr_text.specs.declared.scanners.ScanError.{ScanError}
use Rattle.gr_text.specs.declared.scanners.ScanError.TheVariants as scans
use Rattle.gr_lrat.specs.Lines.{Spelling, Nothing, Spelled, Misspelt, HasNegativeHint}
use Rattle.gr_lrat.specs.Logs.{LogRead, AtEnd, AtLimit, ends, with_line, log_from}
use Rattle.gr_lrat.specs.declared.pieces.Ending.{Ending}
use Rattle.gr_lrat.specs.declared.pieces.Piece.{Piece}
use Rattle.gr_lrat.specs.declared.pieces.Piece.TheVariants as pieces

-- the lines of a text, where the tokens to come of the present line spell what is said
abbrev pub log_with : (List (List ℕ) → Spelling) → List Mark → LogRead
log_with said [] = ends (AtLimit 1)
log_with said (Word line first w ∷ ms) = log_with (λ ws. said (w ∷ ws)) ms
log_with said (Break line ∷ ms) = with_line (said []) line (log_from [] ms)
log_with said (Stop line ∷ ms) = with_line (said []) line (ends AtEnd)
log_with said (Cut line ∷ ms) = ends (AtLimit line)

-- the log to come within a line, where the text is told and so many bytes of it may be looked at
abbrev pub in_line : ℕ → (List (List ℕ) → Spelling) → Place → Option (List ℕ) → Option LogRead
in_line limit said p l = option_map (log_with said) (coming limit p l)

-- the log to come behind a line, which may be the last one
abbrev pub log_to_come : ℕ → Bool → Place → Option (List ℕ) → Option LogRead
log_to_come limit last p l = if last then option_map (λ _. ends AtEnd) l else option_map (log_from
    []) (coming limit p l)

-- from a place to a later one in the same line: what the tokens to come spell there is what they
-- spell here
pub record Onward (said : List (List ℕ) → Spelling) (p : Place) (l : Option (List ℕ)) (said' : List
    (List ℕ) → Spelling) (q : Place) (r : Option (List ℕ)) : Type 0 where
  pub same : (limit : ℕ) → known q ≤ limit → in_line limit said p l ≡ in_line limit said' q r
  pub grows : known p ≤ known q

-- the line was read to its end, and its tokens to come spelt this
abbrev pub EndsLine : (List (List ℕ) → Spelling) → Spelling → Ending → Place → Option (List ℕ) →
    Place → Option (List ℕ) → Type 0
EndsLine said spelt end p l q r = (limit : ℕ) → known q ≤ limit →
    in_line limit said p l ≡ option_map (with_line spelt end.line) (log_to_come limit end.last q r)

-- why the line was not read to its end: what was taken makes no further line known
abbrev pub FailsInLine : (List (List ℕ) → Spelling) → ScanError → Place → Option (List ℕ) → Place →
    Option (List ℕ) → Type 0
FailsInLine said (scans.TooLong line) p l q r =
    (in_line (taken q) said p l ≡ option_map (λ _. ends (AtLimit line)) r) × (q.spare
    ≡ 0) × (q.ended ≡ false)
FailsInLine said scans.ReadFault p l q r =
    (in_line (taken q) said p l ≡ option_map (λ _. ends (AtLimit q.last)) r) × (q.ended ≡ false)
FailsInLine said scans.OutOfMemory p l q r = Unit {0}

-- what is answered where a line is read to its end, of which the tokens to come spell what is said: what they
-- spelt and where the line ended, or why it was not read
abbrev pub Tells : {T : Type 0} → (List (List ℕ) → Spelling) → (T → Spelling) → (T → Ending) →
    Result T ScanError → Place → Option (List ℕ) → Place → Option (List ℕ) → Type 0
Tells said spelt end (Ok x) p l q r = EndsLine said (spelt x) (end x) p l q r
Tells said spelt end (Err failed) p l q r = FailsInLine said failed p l q r

-- what comes next in a line: a token, or its end
abbrev pub Comes : (List (List ℕ) → Spelling) → Piece → Place → Option (List ℕ) → Place →
    Option (List ℕ) → Type 0
Comes said pieces.Token p l q r = Onward said p l (λ ws. said (q.token ∷ ws)) q r
Comes said (pieces.End end) p l q r = EndsLine said (said []) end p l q r

-- the end of a line that is not the last has a byte, which was passed
abbrev pub Passes : Ending → Place → Place → Type 0
Passes end p q = (p.passed ≤ q.passed) × (end.last ≡ false → p.passed < q.passed)

-- a token has bytes, which were passed
abbrev pub PassesPiece : Piece → Place → Place → Type 0
PassesPiece pieces.Token p q = p.passed < q.passed
PassesPiece (pieces.End end) p q = Passes end p q

-- a line that spells something has bytes, which were passed
abbrev pub PassesBytes : Spelling → Place → Place → Type 0
PassesBytes Nothing p q = p.passed ≤ q.passed
PassesBytes (Spelled line) p q = p.passed < q.passed
PassesBytes Misspelt p q = p.passed < q.passed
PassesBytes HasNegativeHint p q = p.passed < q.passed

-- what a failure says of the count of failed reads: it rose where a failed read is told, and stayed where the text is
-- too long
abbrev pub FailsAt : ScanError → ℕ → ℕ → Type 0
FailsAt (scans.TooLong line) before now = now ≡ before
FailsAt scans.ReadFault before now = Rose before now
FailsAt scans.OutOfMemory before now = Unit {0}

-- what an answer says of that count: it stayed where something was read
abbrev pub CountsFaults : {T : Type 0} → Result T ScanError → ℕ → ℕ → Type 0
CountsFaults (Ok x) before now = now ≡ before
CountsFaults (Err failed) before now = FailsAt failed before now

-- reading went on, and the count of failed reads is as the answer says
abbrev pub GoesFor : {T : Type 0} → Result T ScanError → Stand → Stand → Type 0
GoesFor result old new = Goes old new × CountsFaults result old.faults new.faults
