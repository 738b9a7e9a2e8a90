-- the texts that the program writes on a proof log
use Rattle.std.specs.Prelude.{ℕ, List, [], ◌++◌, codes}
use Rattle.std.specs.Fmt.{decimal}
use Rattle.gr_top.specs.Texts.{line_of, fault_text}
use Rattle.gr_top.specs.declared.statuses.Status.{Status}
use Rattle.gr_top.specs.declared.statuses.Status.TheVariants.{Satisfiable, Unsatisfiable, Unknown, Verified, NotVerified, Usage, Grammar, LogGrammar, ReadFault, SinkFault, OutOfMemory}
use Rattle.gr_top.specs.declared.statuses.NotVerified.{NotVerified as Reason}
use Rattle.gr_top.specs.declared.statuses.NotVerified.TheVariants.{Line, NoEmptyClause}
use Rattle.gr_top.specs.declared.statuses.Cause.{Cause}
use Rattle.gr_top.specs.declared.statuses.Cause.TheVariants as causes
use Rattle.gr_top.specs.declared.statuses.LogFault.{LogFault}
use Rattle.gr_top.specs.declared.statuses.LogFault.TheVariants as faults

-- the verdict that a log proves the formula unsatisfiable
abbrev pub verified_line : List ℕ
verified_line = line_of (codes "s VERIFIED")

-- the verdict that it does not
abbrev pub not_verified_line : List ℕ
not_verified_line = line_of (codes "s NOT VERIFIED")

-- the name of a cause, between the line's number and the id
abbrev pub cause_name : Cause → List ℕ
cause_name (causes.IdNotGreater id) = codes ": IdNotGreater "
cause_name (causes.VarAbove id) = codes ": VarAbove "
cause_name (causes.NotLive id) = codes ": NotLive "
cause_name (causes.HintNotUnit id) = codes ": HintNotUnit "
cause_name (causes.NoConflict id) = codes ": NoConflict "

-- the id that a cause names
abbrev pub cause_id : Cause → ℕ
cause_id (causes.IdNotGreater id) = id
cause_id (causes.VarAbove id) = id
cause_id (causes.NotLive id) = id
cause_id (causes.HintNotUnit id) = id
cause_id (causes.NoConflict id) = id

-- what follows the number of a refused line
abbrev pub cause_text : Cause → List ℕ
cause_text cause = cause_name cause ++ line_of (decimal (cause_id cause))

-- the verdict with the first line that is refused, and why
abbrev pub refused_line_text : ℕ → Cause → List ℕ
refused_line_text n cause = not_verified_line ++ (codes "c log line " ++ (decimal n ++ cause_text cause))

-- the verdict with its reason
abbrev pub not_verified_text : Reason → List ℕ
not_verified_text (Line n cause) = refused_line_text n cause
not_verified_text NoEmptyClause = not_verified_line ++ line_of (codes "c log: NoEmptyClause")

-- the line of a fault
abbrev pub log_fault_line : LogFault → ℕ
log_fault_line (faults.BadLine n) = n
log_fault_line (faults.RatHint n) = n
log_fault_line (faults.TooLong n) = n

-- what follows the line number of a fault
abbrev pub log_kind_line : LogFault → List ℕ
log_kind_line (faults.BadLine n) = line_of (codes ": BadLine")
log_kind_line (faults.RatHint n) = line_of (codes ": RatHint")
log_kind_line (faults.TooLong n) = line_of (codes ": TooLong")

-- a fault of the log's text
abbrev pub log_fault_text : LogFault → List ℕ
log_fault_text fault = codes "c fault: log line " ++ (decimal (log_fault_line fault) ++ log_kind_line fault)

-- what a check writes: its verdict, or the fault that it found
abbrev pub check_text : Status → List ℕ
check_text Verified = verified_line
check_text (NotVerified reason) = not_verified_text reason
check_text (Grammar fault) = fault_text fault
check_text (LogGrammar fault) = log_fault_text fault
check_text Satisfiable = []
check_text Unsatisfiable = []
check_text Unknown = []
check_text Usage = []
check_text ReadFault = []
check_text SinkFault = []
check_text OutOfMemory = []
