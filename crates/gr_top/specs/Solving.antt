-- the solve theorem: what a call says of the formula's text, and what it leaves on its streams
use Rattle.std.specs.Prelude.{◌≡◌, ℕ, Bool, List, [], ◌++◌, Option, Some, Ok, Err, ◌⊎◌}
use Rattle.gr_logic.specs.Formulas.{Cnf}
use Rattle.gr_logic.specs.declared.lines.Line.{Line}
use Rattle.gr_io.specs.Pieces.{Gains}
use Rattle.gr_dimacs.specs.Reads.{program_limits, Reads}
use Rattle.gr_dimacs.specs.declared.faults.GrammarFault.{GrammarFault}
use Rattle.gr_dimacs.specs.declared.faults.ReadError.TheVariants as errors
use Rattle.gr_lrat.specs.Writing.{log_text}
use Rattle.gr_diary.specs.Histories.{AddsEmptyClause}
use Rattle.gr_run.specs.declared.options.SolveOptions.{SolveOptions}
use Rattle.gr_run.specs.Runs.{Satisfies}
use Rattle.gr_top.specs.Completeness.{IsComplete}
use Rattle.gr_top.specs.Histories.{HasRefutation, IsHistory, IsRefutation, IsSpent, log_of}
use Rattle.gr_top.specs.Sinks.{Sinks, OutRose, ProofRose, IsUntouched, Tells, TellsPart, TellsRefutation, CutOutput, CutLog, CutAnswer}
use Rattle.gr_top.specs.Streams.{Streams, Taking, taking, ReadRose, IsReadFrom, IsFaultIn}
use Rattle.gr_top.specs.Texts.{satisfiable_line, unsatisfiable_line, unknown_line, satisfiable_text, fault_text}
use Rattle.gr_top.specs.declared.statuses.Status.{Status}
use Rattle.gr_top.specs.declared.statuses.Status.TheVariants.{Satisfiable, Unsatisfiable, Unknown, Verified, NotVerified, Usage, Grammar, LogGrammar, ReadFault, SinkFault, OutOfMemory}
use Rattle.gr_top.specs.declared.reports.Report.{Report}

-- the report has neither a model nor a history
pub record IsBare (r : Report) : Type 0 where
  pub model : r.model ≡ []
  pub diary : r.diary.entries ≡ []

-- the formula is satisfiable: by the model, which is written
pub record AnswersModel (f : Cnf) (o : SolveOptions) (old new : Sinks) (r : Report) : Type 0 where
  pub history : IsHistory f o r.diary
  pub unrefuted : AddsEmptyClause r.diary.entries → ⊥
  pub model : Satisfies f r.model
  pub told : Tells (satisfiable_text r.model) old new

-- it is unsatisfiable: the history's log refutes it, and is written before the verdict
pub record AnswersRefutation (f : Cnf) (o : SolveOptions) (old new : Sinks) (r : Report) : Type 0 where
  pub history : IsHistory f o r.diary
  pub empty : AddsEmptyClause r.diary.entries
  pub refutes : IsRefutation f (log_of f o r.diary)
  pub told : TellsRefutation (log_of f o r.diary) old new
  pub no_model : r.model ≡ []

-- it is not decided: the limit was spent
pub record AnswersUnknown (f : Cnf) (o : SolveOptions) (old new : Sinks) (r : Report) : Type 0 where
  pub history : IsHistory f o r.diary
  pub spent : IsSpent f o r.diary
  pub told : Tells unknown_line old new
  pub no_model : r.model ≡ []

-- a sink failed: the output; or the proof log, before any byte of the verdict
abbrev pub AnswerFailed : Cnf → SolveOptions → Sinks → Sinks → Type 0
AnswerFailed f o old new =
    (OutRose old new × CutOutput f o old new) ⊎ (ProofRose old new × CutLog f old new)

-- an answer on a formula: what its status says, and what is written
abbrev pub AnswersBy : Status → Cnf → SolveOptions → Sinks → Sinks → Report → Type 0
AnswersBy Satisfiable f o old new r = AnswersModel f o old new r
AnswersBy Unsatisfiable f o old new r = AnswersRefutation f o old new r
AnswersBy Unknown f o old new r = AnswersUnknown f o old new r
AnswersBy SinkFault f o old new r = AnswerFailed f o old new × IsBare r
AnswersBy OutOfMemory f o old new r = CutAnswer f o old new × IsBare r
AnswersBy Usage f o old new r = ⊥
AnswersBy Verified f o old new r = ⊥
AnswersBy (NotVerified reason) f o old new r = ⊥
AnswersBy (LogGrammar fault) f o old new r = ⊥
AnswersBy (Grammar g) f o old new r = ⊥
AnswersBy ReadFault f o old new r = ⊥

-- the report answers the formula
abbrev pub Answers : Cnf → SolveOptions → Sinks → Sinks → Report → Type 0
Answers f o old new r = AnswersBy r.status f o old new r

-- the report answers the formula that the text spells
abbrev pub AnswersText : Status → Taking → SolveOptions → Sinks → Sinks → Report → Type 0
AnswersText status text o old new r = (f : Cnf) × IsReadFrom text f × AnswersBy status f o old new r

-- the line on the text's first fault was cut off
abbrev pub CutFault : Taking → Sinks → Sinks → Type 0
CutFault text old new = (g : GrammarFault) × IsFaultIn text g × TellsPart (fault_text g) old new

-- the text could not be read for want of memory
abbrev pub CutRead : Taking → Sinks → Sinks → Type 0
CutRead text old new = Reads program_limits (Err errors.OutOfMemory) text.left text.rest × IsUntouched old new

-- what a call leaves that was cut off: nothing; a front part of the line on the text's fault; or what the
-- answer on the text's formula leaves
abbrev pub CutSolve : Taking → SolveOptions → Sinks → Sinks → Type 0
CutSolve text o old new =
    CutRead text old new ⊎ (CutFault text old new ⊎ ((f : Cnf) × IsReadFrom text f × CutAnswer f o old new))

-- what each status says of the text, why it comes, and what is written then
abbrev pub SolvesBy : Status → SolveOptions → Streams → Streams → Report → Type 0
SolvesBy Satisfiable o old new r = AnswersText Satisfiable (taking old new) o old.sinks new.sinks r
SolvesBy Unsatisfiable o old new r = AnswersText Unsatisfiable (taking old new) o old.sinks new.sinks r
SolvesBy Unknown o old new r = AnswersText Unknown (taking old new) o old.sinks new.sinks r
SolvesBy (Grammar g) o old new r =
    IsFaultIn (taking old new) g × Tells (fault_text g) old.sinks new.sinks × IsBare r
SolvesBy ReadFault o old new r =
    ReadRose old new × Reads program_limits (Err errors.ReadFault) old.text new.text
    × IsUntouched old.sinks new.sinks × IsBare r
SolvesBy SinkFault o old new r =
    AnswersText SinkFault (taking old new) o old.sinks new.sinks r
    ⊎ (OutRose old.sinks new.sinks × CutFault (taking old new) old.sinks new.sinks × IsBare r)
SolvesBy OutOfMemory o old new r = CutSolve (taking old new) o old.sinks new.sinks × IsBare r
SolvesBy Usage o old new r = ⊥
SolvesBy Verified o old new r = ⊥
SolvesBy (NotVerified reason) o old new r = ⊥
SolvesBy (LogGrammar fault) o old new r = ⊥

-- the sink tells its text, and behind the old text begins the whole line
pub record Shows (line : List ℕ) (old new : Option (List ℕ)) : Type 0 where
  pub before : List ℕ
  pub behind : List ℕ
  pub was : old ≡ Some before
  pub is : new ≡ Some (before ++ (line ++ behind))

-- a verdict is written only where it is true, and UNSATISFIABLE only over a whole log that refutes the formula
pub record NoFalseVerdict (text : Taking) (old new : Sinks) : Type 0 where
  pub satisfiable : Shows satisfiable_line old.out new.out
      → (f : Cnf) × IsReadFrom text f × (model : List Bool) × Satisfies f model
  pub unsatisfiable : Shows unsatisfiable_line old.out new.out
      → (f : Cnf) × IsReadFrom text f × (lines : List Line) × IsRefutation f lines
      × Gains (log_text lines) old.proof new.proof

-- the solve theorem: each status has its cause and its text, no verdict is false or stands over a torn log,
-- and there is no other answer where nothing fails
pub record Solves (o : SolveOptions) (old new : Streams) (r : Report) : Type 0 where
  pub answer : SolvesBy r.status o old new r
  pub honest : NoFalseVerdict (taking old new) old.sinks new.sinks
  pub complete : IsComplete old.text old new r.status

-- a call that ends so does not touch the proof log
abbrev pub SparesProof : Status → Type 0
SparesProof Satisfiable = Unit {0}
SparesProof Unknown = Unit {0}
SparesProof Usage = Unit {0}
SparesProof (Grammar g) = Unit {0}
SparesProof ReadFault = Unit {0}
SparesProof Verified = Unit {0}
SparesProof (NotVerified reason) = Unit {0}
SparesProof (LogGrammar fault) = Unit {0}
SparesProof Unsatisfiable = ⊥
SparesProof SinkFault = ⊥
SparesProof OutOfMemory = ⊥

-- what a source had left was read through, and spells a formula that a log refutes
abbrev pub IsRefuted : Option (List ℕ) → Option (List ℕ) → Type 0
IsRefuted left rest = (f : Cnf) × Reads program_limits (Ok f) left rest × HasRefutation f
