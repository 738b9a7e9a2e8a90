-- what the reader of logs answers
use Rattle.std.specs.Prelude.{◌≡◌, ℕ, ◌+◌, ◌≤◌, ◌<◌, Bool, false, List, length, Option, Some, None, Result, Ok, Err}
use Rattle.std.specs.Option.{option_map}
use Rattle.gr_text.specs.Places.{Place, Takes, known, taken, limit_of}
use Rattle.gr_text.specs.Stands.{Stand}
use Rattle.gr_text.specs.declared.scanners.ScanError.{ScanError}
use Rattle.gr_text.specs.declared.scanners.ScanError.TheVariants as scans
use Rattle.gr_lrat.specs.Lines.{Spelled}
use Rattle.gr_lrat.specs.Logs.{LogEnd, AtEnd, AtBadLine, AtRatHint, AtLimit, ends, with_line}
use Rattle.gr_lrat.specs.Stages.{log_to_come}
use Rattle.gr_lrat.specs.declared.readers.Numbered.{Numbered}
use Rattle.gr_lrat.specs.declared.readers.LineError.{LineError}
use Rattle.gr_lrat.specs.declared.readers.LineError.TheVariants as errors

-- the log to come has no further line, and ends so
abbrev pub EndsSo : ℕ → LogEnd → Bool → Place → Option (List ℕ) → Option (List ℕ) → Type 0
EndsSo limit end last p l r = log_to_come limit last p l ≡ option_map (λ _. ends end) r

-- the log to come was this line and the log to come now; or it ended, or was misspelt, so, however
-- many
-- bytes beyond those that are known may be looked at; or the bytes that were taken make no further
-- line
-- known, and as many were taken as may be, or the source failed
abbrev pub Answers : Result (Option Numbered) LineError → Bool → Place → Option (List ℕ) → Bool →
    Place → Option (List ℕ) → Type 0
Answers (Ok (Some x)) last p l last' q r = (limit : ℕ) → known q ≤ limit →
    log_to_come limit last p l ≡ option_map (with_line (Spelled x.line) x.number) (log_to_come limit
    last' q r)
Answers (Ok None) last p l last' q r = (limit : ℕ) → known q ≤ limit → EndsSo limit AtEnd last p l r
Answers (Err (errors.BadLine n)) last p l last' q r = (limit : ℕ) → known q ≤ limit →
    EndsSo limit (AtBadLine n) last p l r
Answers (Err (errors.RatHint n)) last p l last' q r = (limit : ℕ) → known q ≤ limit →
    EndsSo limit (AtRatHint n) last p l r
Answers (Err (errors.TooLong n)) last p l last' q r =
    EndsSo (taken q) (AtLimit n) last p l r × (q.spare ≡ 0) × (q.ended ≡ false)
Answers (Err errors.ReadFault) last p l last' q r = EndsSo (taken q) (AtLimit q.last) last p l r ×
    (q.ended ≡ false)
Answers (Err errors.OutOfMemory) last p l last' q r = Unit {0}

-- how many bytes may still be passed: those ahead, and those that may still be taken
abbrev pub to_pass : Place → ℕ
to_pass p = length p.ahead + p.spare

-- a line has bytes, which were passed: fewer may be passed now, so a text has no endless row of lines
abbrev pub PassesLine : Result (Option Numbered) LineError → Place → Place → Type 0
PassesLine (Ok (Some x)) p q = to_pass q < to_pass p
PassesLine (Ok None) p q = to_pass q ≤ to_pass p
PassesLine (Err failed) p q = Unit {0}

-- the number of bytes that may be looked at is kept, and what is known stays within it
pub record KeepsLimit (p q : Place) : Type 0 where
  pub limit : limit_of q ≡ limit_of p
  pub within : known p ≤ limit_of p → known q ≤ limit_of q
  pub grows : known p ≤ known q

-- reading went on: the limit stays, what was taken came off the source, which counted it, and no fault
-- is forgotten
pub record GoesOn (old new : Stand) : Type 0 where
  pub keeps : KeepsLimit old.place new.place
  pub takes : Takes old.place old.left new.place new.left
  pub counts : new.count + taken old.place ≡ old.count + taken new.place
  pub faults : old.faults ≤ new.faults

-- the log is at fault or too long: neither a failed read nor want of memory is told
abbrev pub IsTold : LineError → Type 0
IsTold (errors.BadLine n) = Unit {0}
IsTold (errors.RatHint n) = Unit {0}
IsTold (errors.TooLong n) = Unit {0}
IsTold errors.ReadFault = ⊥
IsTold errors.OutOfMemory = ⊥

-- a line, the end of the log or its fault was told
abbrev pub IsAnswer : Result (Option Numbered) LineError → Type 0
IsAnswer (Ok found) = Unit {0}
IsAnswer (Err failed) = IsTold failed

-- what fails in a scanner fails in a reader
abbrev pub line_error_of : ScanError → LineError
line_error_of (scans.TooLong n) = errors.TooLong n
line_error_of scans.ReadFault = errors.ReadFault
line_error_of scans.OutOfMemory = errors.OutOfMemory
