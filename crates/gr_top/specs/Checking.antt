-- the check theorem: what a check says of its two texts, and what it leaves on its streams
use Rattle.std.specs.Prelude.{◌≡◌, ℕ, List, Option, Some, Result, Ok, Err, ◌⊎◌}
use Rattle.gr_logic.specs.Formulas.{Cnf}
use Rattle.gr_io.specs.Pieces.{Gains, GainsPart, Rose}
use Rattle.gr_dimacs.specs.Faults.{fault_of}
use Rattle.gr_dimacs.specs.Reads.{program_limits, IsFormulaOf, Reads}
use Rattle.gr_dimacs.specs.declared.faults.GrammarFault.{GrammarFault}
use Rattle.gr_dimacs.specs.declared.faults.ReadError.TheVariants as errors
use Rattle.gr_lrat.specs.Logs.{LogOutcome}
use Rattle.gr_lrat.specs.Logs as outcomes
use Rattle.gr_top.specs.CheckTexts.{check_text}
use Rattle.gr_top.specs.CheckedLogs.{Shown, shown, SaysOfLog, IsLogUnread, IsWithinLimit, outcome_of, unproved, misspelt}
use Rattle.gr_top.specs.Streams.{Taking, IsReadFrom, IsFaultIn}
use Rattle.gr_top.specs.Completeness.{IsRefusal}
use Rattle.gr_top.specs.Solving.{IsBare}
use Rattle.gr_top.specs.declared.statuses.Status.{Status}
use Rattle.gr_top.specs.declared.statuses.Status.TheVariants.{Satisfiable, Unsatisfiable, Unknown, Verified, NotVerified, Usage, Grammar, LogGrammar, ReadFault, SinkFault, OutOfMemory}
use Rattle.gr_top.specs.declared.statuses.Stop.{Stop}
use Rattle.gr_top.specs.declared.statuses.Stop.TheVariants as stops
use Rattle.gr_top.specs.declared.reports.Report.{Report}

-- what the sources of a check show: that of the formula, and that of the log
pub record Sources : Type 0 where
  pub cnf : Shown
  pub log : Shown

-- the sources that show this
abbrev pub sources : Option (List ℕ) → ℕ → Option (List ℕ) → ℕ → Sources
sources cnf cnf_faults log log_faults = record { cnf = shown cnf cnf_faults; log = shown log log_faults }

-- what was written to the output, where it is told, and how often it failed
pub record Output : Type 0 where
  pub text : Option (List ℕ)
  pub faults : ℕ

-- the output that shows this
abbrev pub output : Option (List ℕ) → ℕ → Output
output text faults = record { text = text; faults = faults }

-- what was taken of the formula's text
abbrev pub formula_taking : Sources → Sources → Taking
formula_taking old new = record { left = old.cnf.text; rest = new.cnf.text }

-- the formula was read through
abbrev pub IsFormulaRead : Cnf → Sources → Sources → Type 0
IsFormulaRead f old new = IsReadFrom (formula_taking old new) f

-- the formula could not be read: its source failed, and the bytes that were taken before decide nothing. The log
-- was left alone
abbrev pub FormulaUnread : Sources → Sources → Type 0
FormulaUnread old new =
    Rose old.cnf.faults new.cnf.faults × Reads program_limits (Err errors.ReadFault) old.cnf.text new.cnf.text
    × (new.log ≡ old.log)

-- the formula was read, and the log's source failed
abbrev pub LogUnread : Sources → Sources → Type 0
LogUnread old new = (f : Cnf) × IsFormulaRead f old new × IsLogUnread f old.log new.log

-- a source failed
abbrev pub IsUnread : Sources → Sources → Type 0
IsUnread old new = FormulaUnread old new ⊎ LogUnread old new

-- what a status says of the log, against the formula that was read
abbrev pub SaysOfBoth : Status → Sources → Sources → Type 0
SaysOfBoth status old new =
    (f : Cnf) × IsFormulaRead f old new × SaysOfLog status f old.log.text new.log.text

-- what a status says of the two texts. Where the formula's has a fault, the log was left alone
abbrev pub IsDue : Status → Sources → Sources → Type 0
IsDue (Grammar g) old new =
    IsFaultIn (formula_taking old new) g × (new.log ≡ old.log)
IsDue Verified old new = SaysOfBoth Verified old new
IsDue (NotVerified reason) old new = SaysOfBoth (NotVerified reason) old new
IsDue (LogGrammar fault) old new = SaysOfBoth (LogGrammar fault) old new
IsDue Satisfiable old new = ⊥
IsDue Unsatisfiable old new = ⊥
IsDue Unknown old new = ⊥
IsDue Usage old new = ⊥
IsDue ReadFault old new = ⊥
IsDue SinkFault old new = ⊥
IsDue OutOfMemory old new = ⊥

-- memory was wanting: for the formula, and the log was left alone; or for the log
abbrev pub IsCutShort : Sources → Sources → Type 0
IsCutShort old new =
    (Reads program_limits (Err errors.OutOfMemory) old.cnf.text new.cnf.text × (new.log ≡ old.log))
    ⊎ ((f : Cnf) × IsFormulaRead f old new × IsWithinLimit old.log.text new.log.text)

-- what is found of the two texts, or why nothing is: a source failed, or memory was wanting
abbrev pub Judges : Result Status Stop → Sources → Sources → Type 0
Judges (Ok status) old new = IsDue status old new
Judges (Err stops.ReadFault) old new = IsUnread old new
Judges (Err stops.OutOfMemory) old new = IsCutShort old new

-- the status is true of the texts, and its text was written
abbrev pub Tells : Status → Sources → Sources → Output → Output → Type 0
Tells status s t old new = IsDue status s t × Gains (check_text status) old.text new.text

-- a status is true of the texts, and of its text a front part was written
abbrev pub TellsPart : Sources → Sources → Output → Output → Type 0
TellsPart s t old new = (due : Status) × IsDue due s t × GainsPart (check_text due) old.text new.text

-- what each status says of the texts, why it comes, and what is written then
abbrev pub ChecksBy : Status → Sources → Sources → Output → Output → Type 0
ChecksBy Verified s t old new = Tells Verified s t old new
ChecksBy (NotVerified reason) s t old new = Tells (NotVerified reason) s t old new
ChecksBy (Grammar g) s t old new = Tells (Grammar g) s t old new
ChecksBy (LogGrammar fault) s t old new = Tells (LogGrammar fault) s t old new
ChecksBy ReadFault s t old new = IsUnread s t × (new.text ≡ old.text)
ChecksBy SinkFault s t old new = Rose old.faults new.faults × TellsPart s t old new
ChecksBy OutOfMemory s t old new = (IsCutShort s t × (new.text ≡ old.text)) ⊎ TellsPart s t old new
ChecksBy Satisfiable s t old new = ⊥
ChecksBy Unsatisfiable s t old new = ⊥
ChecksBy Unknown s t old new = ⊥
ChecksBy Usage s t old new = ⊥

-- nothing failed in the check
pub record NothingFailed (s t : Sources) (old new : Output) : Type 0 where
  pub cnf : Rose s.cnf.faults t.cnf.faults → ⊥
  pub log : Rose s.log.faults t.log.faults → ⊥
  pub out : Rose old.faults new.faults → ⊥

-- the status tells this outcome of the log, or want of memory
abbrev pub IsAnswer : LogOutcome → Status → Type 0
IsAnswer outcome Verified = outcome ≡ outcomes.Verified
IsAnswer outcome (NotVerified reason) = outcome ≡ unproved reason
IsAnswer outcome (LogGrammar fault) = outcome ≡ misspelt fault
IsAnswer outcome OutOfMemory = Unit {0}
IsAnswer outcome Satisfiable = ⊥
IsAnswer outcome Unsatisfiable = ⊥
IsAnswer outcome Unknown = ⊥
IsAnswer outcome Usage = ⊥
IsAnswer outcome (Grammar g) = ⊥
IsAnswer outcome ReadFault = ⊥
IsAnswer outcome SinkFault = ⊥

-- where nothing fails, the log's outcome is told for a text that spells a formula, and another text is refused
-- by its first fault
pub record AnswersAll (s t : Sources) (old new : Output) (status : Status) : Type 0 where
  pub decided : (text log : List ℕ) (f : Cnf) → s.cnf.text ≡ Some text → s.log.text ≡ Some log
      → IsFormulaOf program_limits text f → NothingFailed s t old new → IsAnswer (outcome_of f log) status
  pub refused : (text : List ℕ) (g : GrammarFault) → s.cnf.text ≡ Some text → fault_of program_limits text ≡ Some g
      → NothingFailed s t old new → IsRefusal g status

-- the check theorem: each status has its cause and its text, and there is no other answer where nothing fails
pub record Checks (s t : Sources) (old new : Output) (r : Report) : Type 0 where
  pub answer : ChecksBy r.status s t old new
  pub complete : AnswersAll s t old new r.status
  pub bare : IsBare r
