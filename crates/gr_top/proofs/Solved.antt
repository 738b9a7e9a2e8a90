-- the solve theorem from what each status says
use Rattle.std.proofs.Common.{◌≡◌, subst, ℕ, List, inl, inr}
use Rattle.std.specs.Prelude.{Option, Some, None, Ok, Err}
use Rattle.gr_io.proofs.Parts.{part_all}
use Rattle.gr_logic.specs.Formulas.{Cnf}
use Rattle.gr_dimacs.specs.Faults.{fault_of}
use Rattle.gr_dimacs.specs.Reads.{program_limits, IsFormulaOf, Reads}
use Rattle.gr_dimacs.specs.declared.faults.GrammarFault.{GrammarFault}
use Rattle.gr_dimacs.specs.declared.faults.ReadError.TheVariants as errors
use Rattle.gr_run.specs.declared.options.SolveOptions.{SolveOptions}
use Rattle.gr_top.specs.Histories.{log_of}
use Rattle.gr_top.specs.Sinks.{Sinks}
use Rattle.gr_top.specs.Streams.{Streams, Taking, taking, IsReadFrom, IsFaultIn}
use Rattle.gr_top.specs.Completeness.{NothingRose, IsDecision, IsRefusal}
use Rattle.gr_top.specs.Solving.{AnswerFailed, CutFault, SolvesBy, Solves, NoFalseVerdict}
use Rattle.gr_top.specs.declared.statuses.Status.{Status}
use Rattle.gr_top.specs.declared.statuses.Status.TheVariants.{Satisfiable, Unsatisfiable, Unknown, Verified, NotVerified, Usage, Grammar, LogGrammar, ReadFault, SinkFault, OutOfMemory}
use Rattle.gr_top.specs.declared.reports.Report.{Report}
use Rattle.gr_top.proofs.Honest.{comment-honest, same-honest, model-honest, unknown-honest}
use Rattle.gr_top.proofs.HonestRefutations.{refutation-honest, cut-output-honest, cut-answer-honest}

cut-fault-honest : (told : Taking) (old new : Sinks) → CutFault told old new → NoFalseVerdict told old new
cut-fault-honest told old new cut = comment-honest told old new _ cut.2.out

-- where a sink failed, no verdict is false
failed-honest : (told : Taking) (f : Cnf) (o : SolveOptions) (old new : Sinks)
    → IsReadFrom told f → AnswerFailed f o old new → NoFalseVerdict told old new
failed-honest told f o old new read (inl failed) = cut-output-honest told f o old new read failed.1
failed-honest told f o old new read (inr failed) = same-honest told old new failed.1.out

-- each status leaves no false verdict
honest : (status : Status) (o : SolveOptions) (old new : Streams) (r : Report)
    → SolvesBy status o old new r → NoFalseVerdict (taking old new) old.sinks new.sinks
honest Satisfiable o old new r says =
    model-honest (taking old new) says.0 old.sinks new.sinks r.model says.1 says.2.model
    (part_all _ _ _ says.2.told.out)
honest Unsatisfiable o old new r says =
    refutation-honest (taking old new) says.0 old.sinks new.sinks (log_of says.0 o r.diary) says.1 says.2.refutes
    says.2.told.proof (part_all _ _ _ says.2.told.out)
honest Unknown o old new r says =
    unknown-honest (taking old new) old.sinks new.sinks (part_all _ _ _ says.2.told.out)
honest (Grammar g) o old new r says =
    comment-honest (taking old new) old.sinks new.sinks _ (part_all _ _ _ says.1.out)
honest ReadFault o old new r says = same-honest (taking old new) old.sinks new.sinks says.2.out
honest SinkFault o old new r (inl says) =
    failed-honest (taking old new) says.0 o old.sinks new.sinks says.1 says.2.0
honest SinkFault o old new r (inr says) = cut-fault-honest (taking old new) old.sinks new.sinks says.1
honest OutOfMemory o old new r says = elim says.0 [
  | inl cut ↦ same-honest (taking old new) old.sinks new.sinks cut.1.out
  | inr (inl cut) ↦ cut-fault-honest (taking old new) old.sinks new.sinks cut
  | inr (inr cut) ↦ cut-answer-honest (taking old new) cut.0 o old.sinks new.sinks cut.1 cut.2
]
honest Usage o old new r says = absurd says
honest Verified o old new r says = absurd says
honest (NotVerified reason) o old new r says = absurd says
honest (LogGrammar fault) o old new r says = absurd says

-- where the output or the proof log failed, something failed
answer-failed : (f : Cnf) (o : SolveOptions) (old new : Streams) → NothingRose old new
    → AnswerFailed f o old.sinks new.sinks → ⊥
answer-failed f o old new nothing (inl failed) = nothing.out failed.0
answer-failed f o old new nothing (inr failed) = nothing.proof failed.0

-- a told text that was refused has this first fault
fault-of-read : (text : List ℕ) (rest : Option (List ℕ)) (g : GrammarFault)
    → Reads program_limits (Err (errors.Grammar g)) (Some text) rest → fault_of program_limits text ≡ Some g
fault-of-read text (Some rest) g reads = reads.answers
fault-of-read text None g reads = absurd reads

-- a told text that was read spells the formula
formula-of-read : (text : List ℕ) (rest : Option (List ℕ)) (f : Cnf)
    → Reads program_limits (Ok f) (Some text) rest → IsFormulaOf program_limits text f
formula-of-read text (Some rest) f reads = reads.answers
formula-of-read text None f reads = absurd reads

-- a told text has its own fault
pub fault-in : (told : Taking) (text : List ℕ) (g : GrammarFault)
    → told.left ≡ Some text → IsFaultIn told g → fault_of program_limits text ≡ Some g
fault-in told text g is fault =
    let P : Option (List ℕ) → Type 0 = λ o. Reads program_limits (Err (errors.Grammar g)) o told.rest in
    fault-of-read text told.rest g (subst P is fault)

-- a told text that was read spells the formula
pub formula-in : (told : Taking) (f : Cnf) (text : List ℕ)
    → told.left ≡ Some text → IsReadFrom told f → IsFormulaOf program_limits text f
formula-in told f text is read =
    let P : Option (List ℕ) → Type 0 = λ o. Reads program_limits (Ok f) o told.rest in
    formula-of-read text told.rest f (subst P is read)

-- where an answer is given, the told text has no fault
pub no-fault : (told : Taking) (f : Cnf) (text : List ℕ) (g : GrammarFault)
    → told.left ≡ Some text → IsReadFrom told f → fault_of program_limits text ≡ Some g → ⊥
no-fault told f text g is read fault =
    let formula = formula-in told f text is read in
    let none = formula.faultless in cc

-- a told text that spells a formula is decided, where nothing failed
decided : (status : Status) (o : SolveOptions) (old new : Streams) (r : Report)
    → SolvesBy status o old new r
    → (text : List ℕ) (f : Cnf) → old.text ≡ Some text → IsFormulaOf program_limits text f
    → NothingRose old new → IsDecision status
decided Satisfiable o old new r says text f told is nothing = tt
decided Unsatisfiable o old new r says text f told is nothing = tt
decided Unknown o old new r says text f told is nothing = tt
decided OutOfMemory o old new r says text f told is nothing = tt
decided (Grammar g) o old new r says text f told is nothing =
    absurd (let fault = fault-in (taking old new) text g told says.0 in let none = is.faultless in cc)
decided ReadFault o old new r says text f told is nothing = absurd (nothing.read says.0)
decided SinkFault o old new r (inl says) text f told is nothing =
    absurd (answer-failed says.0 o old new nothing says.2.0)
decided SinkFault o old new r (inr says) text f told is nothing = absurd (nothing.out says.0)
decided Usage o old new r says text f told is nothing = absurd says
decided Verified o old new r says text f told is nothing = absurd says
decided (NotVerified reason) o old new r says text f told is nothing = absurd says
decided (LogGrammar fault) o old new r says text f told is nothing = absurd says

-- a told text with a fault is refused by it, where nothing failed
refused : (status : Status) (o : SolveOptions) (old new : Streams) (r : Report)
    → SolvesBy status o old new r
    → (text : List ℕ) (g : GrammarFault) → old.text ≡ Some text → fault_of program_limits text ≡ Some g
    → NothingRose old new → IsRefusal g status
refused Satisfiable o old new r says text g told fault nothing =
    no-fault (taking old new) says.0 text g told says.1 fault
refused Unsatisfiable o old new r says text g told fault nothing =
    no-fault (taking old new) says.0 text g told says.1 fault
refused Unknown o old new r says text g told fault nothing =
    no-fault (taking old new) says.0 text g told says.1 fault
refused OutOfMemory o old new r says text g told fault nothing = tt
refused (Grammar found) o old new r says text g told fault nothing =
    let own = fault-in (taking old new) text found told says.0 in cc
refused ReadFault o old new r says text g told fault nothing = absurd (nothing.read says.0)
refused SinkFault o old new r (inl says) text g told fault nothing =
    absurd (answer-failed says.0 o old new nothing says.2.0)
refused SinkFault o old new r (inr says) text g told fault nothing = absurd (nothing.out says.0)
refused Usage o old new r says text g told fault nothing = absurd says
refused Verified o old new r says text g told fault nothing = absurd says
refused (NotVerified reason) o old new r says text g told fault nothing = absurd says
refused (LogGrammar misspelt) o old new r says text g told fault nothing = absurd says

-- the solve theorem holds where the report's status says what it is to say
pub solves : (o : SolveOptions) (old new : Streams) (r : Report) → SolvesBy r.status o old new r → Solves o old new r
solves o old new r says = record {
  answer = says;
  honest = honest r.status o old new r says;
  complete = record {
    decided = decided r.status o old new r says;
    refused = refused r.status o old new r says;
  };
}
