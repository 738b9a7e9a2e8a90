-- refused lines and a log's refusal
use Rattle.std.specs.Prelude.{◌≡◌, ℕ, Option, Some, None}
use Rattle.gr_logic.specs.Log.{Cause}
use Rattle.gr_check.specs.Refusals.{cause_in}
use Rattle.gr_check.specs.declared.whole_logs.RefusedLine.{RefusedLine}

-- the first refused line has this number and the named cause, if one is named
abbrev pub IsNumbered : ℕ → Option Cause → Option (ℕ × Cause) → Type 0
IsNumbered line None refusal = Unit {0}
IsNumbered line (Some named) refusal = refusal ≡ Some (line, named)

-- the line and the cause are those of the log's refusal, or memory was wanting
abbrev pub IsRefusalOf : RefusedLine → Option (ℕ × Cause) → Type 0
IsRefusalOf at refusal = IsNumbered at.line (cause_in at.why) refusal
