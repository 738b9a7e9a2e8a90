-- what a scanner's calls answer
use Rattle.std.specs.Prelude.{◌≡◌, ℕ, ◌≤◌, ◌<◌, List, [], ◌∷◌, length, Bool, true, false, Option, Result, Ok, Err}
use Rattle.std.specs.Option.{option_map}
use Rattle.gr_text.specs.Tokens.{Mark, Word, Break, Stop, Cut, Spot, from_line_end}
use Rattle.gr_text.specs.Places.{Place, taken, known, coming, coming_from, between, inside, limit_of, Leads, BeginsPastSpaces, BeginsBlank, IsPastEnd, no_token}
use Rattle.gr_io.specs.declared.SourceError.{SourceError}
use Rattle.gr_io.specs.declared.SourceError.TheVariants.{Fault, OutOfMemory}
use Rattle.gr_text.specs.declared.scanners.Scanned.{Scanned}
use Rattle.gr_text.specs.declared.scanners.Scanned.TheVariants.{Token, LineEnd, End}
use Rattle.gr_text.specs.declared.scanners.ScanError.{ScanError}
use Rattle.gr_text.specs.declared.scanners.ScanError.TheVariants as errors

-- the first mark to come was this one, and the others are to come now: under each limit that has
-- room for all that is known, so that the limit decides nothing about it
abbrev pub Gives : Spot → Mark → Place → Option (List ℕ) → Place → Option (List ℕ) → Type 0
Gives s m p l q r =
    (limit : ℕ) → known q ≤ limit
    → coming_from s limit p l ≡ option_map (λ ms. m ∷ ms) (coming limit q r)

-- no mark was to come but this one
abbrev pub Closes : ℕ → Spot → Mark → Place → Option (List ℕ) → Option (List ℕ) → Type 0
Closes limit s m p l r = coming_from s limit p l ≡ option_map (λ _. m ∷ []) r

-- why a call failed: in the bytes that were taken no mark was to come but the cut behind them. The
-- text is too long where no more bytes may be taken; a source that failed had not given its end
abbrev pub Fails : Spot → ScanError → Place → Option (List ℕ) → Place → Option (List ℕ) → Type 0
Fails s (errors.TooLong line) p l q r =
    Closes (taken q) s (Cut line) p l r × (q.spare ≡ 0) × (q.ended ≡ false)
Fails s errors.ReadFault p l q r = Closes (taken q) s (Cut q.last) p l r × (q.ended ≡ false)
Fails s errors.OutOfMemory p l q r = Unit {0}

-- the spaces were passed, up to another byte or the text's end
pub record Reaches (more : Bool) (s : Spot) (p : Place) (l : Option (List ℕ)) (q : Place)
    (r : Option (List ℕ)) : Type 0 where
  pub leads : Leads s p l (between q) q r
  pub token : q.token ≡ []
  pub past : BeginsPastSpaces q.ahead
  pub some : more ≡ true → 0 < length q.ahead
  pub none : more ≡ false → (q.ahead ≡ []) × (q.ended ≡ true)
  pub onward : p.passed ≤ q.passed

-- a token was passed up to its last byte
pub record Spans (s : Spot) (p : Place) (l : Option (List ℕ)) (q : Place) (r : Option (List ℕ)) :
    Type 0 where
  pub leads : Leads s p l (inside q) q r
  pub some : 0 < length q.token
  pub blank : BeginsBlank q.ahead
  pub ended : q.ahead ≡ [] → q.ended ≡ true
  pub onward : p.passed < q.passed

-- what `next` answers is the first of the marks that were to come
abbrev pub Scans : Spot → Scanned → Place → Option (List ℕ) → Place → Option (List ℕ) → Type 0
Scans s (Token line first) p l q r = Gives s (Word line first q.token) p l q r
Scans s (LineEnd line) p l q r = Gives s (Break line) p l q r
Scans s (End line) p l q r = (limit : ℕ) → known q ≤ limit → Closes limit s (Stop line) p l r

-- a token and a line's end have bytes, which were passed: so a text has no endless row of them
abbrev pub Advances : Scanned → Place → Place → Type 0
Advances (Token line first) p q = p.passed < q.passed
Advances (LineEnd line) p q = p.passed < q.passed
Advances (End line) p q = p.passed ≤ q.passed

-- where the text's end was answered nothing is ahead, and its line is the present one
abbrev pub StandsAtEnd : Scanned → Place → Type 0
StandsAtEnd (Token line first) q = Unit {0}
StandsAtEnd (LineEnd line) q = Unit {0}
StandsAtEnd (End line) q = IsPastEnd q × (q.line ≡ line)

-- once the end was met it is answered again, on the same line, and nothing but the token goes
abbrev pub EndsAgain : Result Scanned ScanError → Place → Place → Type 0
EndsAgain result p q = IsPastEnd p → (result ≡ Ok (End p.line)) × (q ≡ no_token p)

-- what fails in the source fails in the scanner
abbrev pub scan_error_of : SourceError → ScanError
scan_error_of Fault = errors.ReadFault
scan_error_of OutOfMemory = errors.OutOfMemory

-- as many bytes were taken as may be: neither a failed read nor want of memory is told
abbrev pub IsTold : ScanError → Type 0
IsTold (errors.TooLong line) = Unit {0}
IsTold errors.ReadFault = ⊥
IsTold errors.OutOfMemory = ⊥

-- what was asked was answered, or no more bytes may be taken
abbrev pub IsAnswer : {T : Type 0} → Result T ScanError → Type 0
IsAnswer (Ok x) = Unit {0}
IsAnswer (Err failed) = IsTold failed

-- the limit on bytes is kept, and what is known lies within it
pub record Keeps (p q : Place) : Type 0 where
  pub limit : limit_of q ≡ limit_of p
  pub within : known q ≤ limit_of q
  pub grows : known p ≤ known q

-- the tokens up to the line's end were passed, and nothing else
abbrev pub Skips : Place → Option (List ℕ) → Place → Option (List ℕ) → Type 0
Skips p l q r =
    (limit : ℕ) → known q ≤ limit → option_map from_line_end (coming limit p l) ≡ coming limit q r

-- why that failed: in the bytes that were taken no line's end was to come, but the cut behind them
abbrev pub SkipFails : ScanError → Place → Option (List ℕ) → Place → Option (List ℕ) → Type 0
SkipFails (errors.TooLong line) p l q r =
    (option_map from_line_end (coming (taken q) p l) ≡ option_map (λ _. Cut line ∷ []) r)
    × (q.spare ≡ 0) × (q.ended ≡ false)
SkipFails errors.ReadFault p l q r =
    (option_map from_line_end (coming (taken q) p l) ≡ option_map (λ _. Cut q.last ∷ []) r)
    × (q.ended ≡ false)
SkipFails errors.OutOfMemory p l q r = Unit {0}
