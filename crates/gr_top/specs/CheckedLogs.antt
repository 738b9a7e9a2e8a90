-- what a check finds of a log, against a formula
use Rattle.std.specs.Prelude.{◌≡◌, ℕ, ◌^◌, ◌≤◌, List, [], ◌++◌, length, map, Option, Some, None, Result, Ok, Err, IfSome}
use Rattle.gr_logic.specs.Formulas.{Cnf}
use Rattle.gr_logic.specs.Truth.{IsUnsatisfiable}
use Rattle.gr_logic.specs.Log.{Accepts, Cause as Meaning}
use Rattle.gr_logic.specs.Log as meanings
use Rattle.gr_logic.specs.declared.lines.Line.{Line as LogLine}
use Rattle.gr_io.specs.Pieces.{Rose}
use Rattle.gr_lrat.specs.Logs.{LogOutcome, log_outcome, log_read}
use Rattle.gr_lrat.specs.Logs as outcomes
use Rattle.gr_top.specs.declared.statuses.Status.{Status}
use Rattle.gr_top.specs.declared.statuses.Status.TheVariants.{Satisfiable, Unsatisfiable, Unknown, Verified, NotVerified, Usage, Grammar, LogGrammar, ReadFault, SinkFault, OutOfMemory}
use Rattle.gr_top.specs.declared.statuses.Stop.{Stop}
use Rattle.gr_top.specs.declared.statuses.Stop.TheVariants as stops
use Rattle.gr_top.specs.declared.statuses.NotVerified.{NotVerified as Reason}
use Rattle.gr_top.specs.declared.statuses.NotVerified.TheVariants.{Line, NoEmptyClause}
use Rattle.gr_top.specs.declared.statuses.Cause.{Cause}
use Rattle.gr_top.specs.declared.statuses.Cause.TheVariants as causes
use Rattle.gr_top.specs.declared.statuses.LogFault.{LogFault}
use Rattle.gr_top.specs.declared.statuses.LogFault.TheVariants as faults

-- what comes of a log for the formula, of whose text 2^40 bytes may be looked at
abbrev pub outcome_of : Cnf → List ℕ → LogOutcome
outcome_of f text = log_outcome f text (2 ^ 40)

-- the lines that the log's text spells
abbrev pub lines_of : List ℕ → List LogLine
lines_of text = map (λ x. x.line) (log_read (2 ^ 40) text).lines

-- a log that is said to have no line at fault was read to its end
abbrev pub IsAllRead : LogOutcome → List ℕ → Type 0
IsAllRead outcomes.Verified rest = rest ≡ []
IsAllRead outcomes.NoEmptyClause rest = rest ≡ []
IsAllRead (outcomes.Refused n cause) rest = Unit {0}
IsAllRead (outcomes.BadLine n) rest = Unit {0}
IsAllRead (outcomes.RatHint n) rest = Unit {0}
IsAllRead (outcomes.TooLong n) rest = Unit {0}

-- this comes of the text, of which at most 2^40 bytes were taken and this rest is left
pub record FindsIn (f : Cnf) (found : LogOutcome) (text rest : List ℕ) : Type 0 where
  pub taken : List ℕ
  pub split : text ≡ taken ++ rest
  pub within : length taken ≤ 2 ^ 40
  pub outcome : outcome_of f text ≡ found
  pub end : IsAllRead found rest

-- this comes of what a source had left, where it tells that
abbrev pub Finds : Cnf → LogOutcome → Option (List ℕ) → Option (List ℕ) → Type 0
Finds f outcome (Some text) (Some rest) = FindsIn f outcome text rest
Finds f outcome (Some text) None = ⊥
Finds f outcome None (Some rest) = ⊥
Finds f outcome None None = Unit {0}

-- the bytes that were taken decide nothing: no line that counts in them is misspelt or refused, and the text
-- does not end in them
pub record FindsNothingIn (f : Cnf) (text rest : List ℕ) : Type 0 where
  pub taken : List ℕ
  pub split : text ≡ taken ++ rest
  pub within : length taken ≤ 2 ^ 40
  pub line : ℕ
  pub outcome : log_outcome f taken (length taken) ≡ outcomes.TooLong line

-- the bytes that were taken of what a source had left decide nothing, where it tells them
abbrev pub FindsNothing : Cnf → Option (List ℕ) → Option (List ℕ) → Type 0
FindsNothing f (Some text) (Some rest) = FindsNothingIn f text rest
FindsNothing f (Some text) None = ⊥
FindsNothing f None (Some rest) = ⊥
FindsNothing f None None = Unit {0}

-- at most 2^40 bytes were taken of the text, of which this rest is left
pub record TakesFew (text rest : List ℕ) : Type 0 where
  pub taken : List ℕ
  pub split : text ≡ taken ++ rest
  pub within : length taken ≤ 2 ^ 40

-- at most 2^40 bytes were taken of what a source had left, where it tells that
abbrev pub IsWithinLimit : Option (List ℕ) → Option (List ℕ) → Type 0
IsWithinLimit (Some text) (Some rest) = TakesFew text rest
IsWithinLimit (Some text) None = ⊥
IsWithinLimit None (Some rest) = ⊥
IsWithinLimit None None = Unit {0}

-- where the log's text is told, it spells these lines
abbrev pub AreLinesOf : Option (List ℕ) → List LogLine → Type 0
AreLinesOf told lines = IfSome told (λ text. lines_of text ≡ lines)

-- the log was read to its end and is a proof: its lines are accepted, and no assignment satisfies the formula
pub record IsProof (f : Cnf) (old new : Option (List ℕ)) : Type 0 where
  pub outcome : Finds f outcomes.Verified old new
  pub lines : List LogLine
  pub spelled : AreLinesOf old lines
  pub accepted : Accepts f lines
  pub refutes : IsUnsatisfiable f.clauses

-- the cause that is told
abbrev pub meaning_of : Cause → Meaning
meaning_of (causes.IdNotGreater id) = meanings.IdNotGreater id
meaning_of (causes.VarAbove id) = meanings.VarAbove id
meaning_of (causes.NotLive id) = meanings.IsNotLive id
meaning_of (causes.HintNotUnit id) = meanings.IsNotUnit id
meaning_of (causes.NoConflict id) = meanings.HasNoConflict id

-- the outcome of a log that is no proof for this reason
abbrev pub unproved : Reason → LogOutcome
unproved (Line n cause) = outcomes.Refused n (meaning_of cause)
unproved NoEmptyClause = outcomes.NoEmptyClause

-- the outcome of a log with this fault
abbrev pub misspelt : LogFault → LogOutcome
misspelt (faults.BadLine n) = outcomes.BadLine n
misspelt (faults.RatHint n) = outcomes.RatHint n
misspelt (faults.TooLong n) = outcomes.TooLong n

-- what a status says of the log, against the formula
abbrev pub SaysOfLog : Status → Cnf → Option (List ℕ) → Option (List ℕ) → Type 0
SaysOfLog Verified f old new = IsProof f old new
SaysOfLog (NotVerified reason) f old new = Finds f (unproved reason) old new
SaysOfLog (LogGrammar fault) f old new = Finds f (misspelt fault) old new
SaysOfLog (Grammar g) f old new = ⊥
SaysOfLog Satisfiable f old new = ⊥
SaysOfLog Unsatisfiable f old new = ⊥
SaysOfLog Unknown f old new = ⊥
SaysOfLog Usage f old new = ⊥
SaysOfLog ReadFault f old new = ⊥
SaysOfLog SinkFault f old new = ⊥
SaysOfLog OutOfMemory f old new = ⊥

-- what a source shows: what it has left to read, where it tells that, and how often reading it failed
pub record Shown : Type 0 where
  pub text : Option (List ℕ)
  pub faults : ℕ

-- the source that shows this
abbrev pub shown : Option (List ℕ) → ℕ → Shown
shown text faults = record { text = text; faults = faults }

-- the log's source failed, and the bytes that were taken before decide nothing
abbrev pub IsLogUnread : Cnf → Shown → Shown → Type 0
IsLogUnread f old new = Rose old.faults new.faults × FindsNothing f old.text new.text

-- what is found of a log, or why nothing is: its source failed, or memory was wanting
abbrev pub LogGives : Result Status Stop → Cnf → Shown → Shown → Type 0
LogGives (Ok status) f old new = SaysOfLog status f old.text new.text
LogGives (Err stops.ReadFault) f old new = IsLogUnread f old new
LogGives (Err stops.OutOfMemory) f old new = IsWithinLimit old.text new.text
