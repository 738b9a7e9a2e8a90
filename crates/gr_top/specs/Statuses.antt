-- how a call of the program ends
use Rattle.std.specs.Prelude.{ℕ, Result, Ok, Err}
use Rattle.gr_io.specs.declared.sinks.SinkError.{SinkError}
use Rattle.gr_io.specs.declared.sinks.SinkError.TheVariants as sinks
use Rattle.gr_lrat.specs.declared.readers.LineError.{LineError}
use Rattle.gr_lrat.specs.declared.readers.LineError.TheVariants as lines
use Rattle.gr_check.specs.declared.refusals.Refused.{Refused}
use Rattle.gr_check.specs.declared.refusals.Refused.TheVariants as refusals
use Rattle.gr_check.specs.declared.refusals.Finish.{Finish}
use Rattle.gr_check.specs.declared.refusals.Finish.TheVariants as finishes
use Rattle.gr_top.specs.declared.statuses.Status.{Status}
use Rattle.gr_top.specs.declared.statuses.Status.TheVariants.{Satisfiable, Unsatisfiable, Unknown, Verified, NotVerified, Usage, Grammar, LogGrammar, ReadFault, SinkFault, OutOfMemory}
use Rattle.gr_top.specs.declared.statuses.Stop.{Stop}
use Rattle.gr_top.specs.declared.statuses.Stop.TheVariants as stops
use Rattle.gr_top.specs.declared.statuses.NotVerified.TheVariants.{Line, NoEmptyClause}
use Rattle.gr_top.specs.declared.statuses.Cause.{Cause}
use Rattle.gr_top.specs.declared.statuses.Cause.TheVariants as causes
use Rattle.gr_top.specs.declared.statuses.LogFault.TheVariants as faults

-- 10, 20 and 0 as in the SAT competitions, 0 for a verified log too, and small numbers for what went wrong
abbrev pub exit_code : Status → ℕ
exit_code Satisfiable = 10
exit_code Unsatisfiable = 20
exit_code Unknown = 0
exit_code Verified = 0
exit_code (NotVerified reason) = 1
exit_code Usage = 2
exit_code (Grammar fault) = 3
exit_code (LogGrammar fault) = 3
exit_code ReadFault = 4
exit_code SinkFault = 5
exit_code OutOfMemory = 6

-- a status that comes only where no read failed
abbrev pub IsWellRead : Status → Type 0
IsWellRead Satisfiable = Unit {0}
IsWellRead Unsatisfiable = Unit {0}
IsWellRead Unknown = Unit {0}
IsWellRead Verified = Unit {0}
IsWellRead (NotVerified reason) = Unit {0}
IsWellRead Usage = Unit {0}
IsWellRead (Grammar fault) = Unit {0}
IsWellRead (LogGrammar fault) = Unit {0}
IsWellRead SinkFault = Unit {0}
IsWellRead ReadFault = ⊥
IsWellRead OutOfMemory = ⊥

-- a status that comes only where no write to the output failed
abbrev pub IsWellWritten : Status → Type 0
IsWellWritten Satisfiable = Unit {0}
IsWellWritten Unsatisfiable = Unit {0}
IsWellWritten Unknown = Unit {0}
IsWellWritten Verified = Unit {0}
IsWellWritten (NotVerified reason) = Unit {0}
IsWellWritten Usage = Unit {0}
IsWellWritten (Grammar fault) = Unit {0}
IsWellWritten (LogGrammar fault) = Unit {0}
IsWellWritten ReadFault = Unit {0}
IsWellWritten SinkFault = ⊥
IsWellWritten OutOfMemory = ⊥

-- the status where a sink did not take a text
abbrev pub cut_status : SinkError → Status
cut_status sinks.Fault = SinkFault
cut_status sinks.OutOfMemory = OutOfMemory

-- the status of a call that was to end so, once its text was written
abbrev pub end_status : Result (Unit {0}) SinkError → Status → Status
end_status (Ok done) due = due
end_status (Err failed) due = cut_status failed

-- the status where a check comes to nothing
abbrev pub stop_status : Stop → Status
stop_status stops.ReadFault = ReadFault
stop_status stops.OutOfMemory = OutOfMemory

-- the status where a log was read to its end and each line was accepted
abbrev pub finish_status : Finish → Status
finish_status finishes.Verified = Verified
finish_status finishes.NoEmptyClause = NotVerified NoEmptyClause

-- what a check comes to where the next line of a log was not read
abbrev pub unread_status : LineError → Result Status Stop
unread_status (lines.BadLine n) = Ok (LogGrammar (faults.BadLine n))
unread_status (lines.RatHint n) = Ok (LogGrammar (faults.RatHint n))
unread_status (lines.TooLong n) = Ok (LogGrammar (faults.TooLong n))
unread_status lines.ReadFault = Err stops.ReadFault
unread_status lines.OutOfMemory = Err stops.OutOfMemory

-- the status where the line of this number is refused for this cause
abbrev pub refused_for : ℕ → Cause → Status
refused_for n cause = NotVerified (Line n cause)

-- what a check comes to where the line of this number was refused
abbrev pub refused_status : ℕ → Refused → Result Status Stop
refused_status n (refusals.IdNotGreater id) = Ok (refused_for n (causes.IdNotGreater id))
refused_status n (refusals.VarAbove id) = Ok (refused_for n (causes.VarAbove id))
refused_status n (refusals.NotLive id) = Ok (refused_for n (causes.NotLive id))
refused_status n (refusals.HintNotUnit id) = Ok (refused_for n (causes.HintNotUnit id))
refused_status n (refusals.NoConflict id) = Ok (refused_for n (causes.NoConflict id))
refused_status n refusals.OutOfMemory = Err stops.OutOfMemory
