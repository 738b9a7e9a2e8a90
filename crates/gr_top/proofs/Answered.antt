-- answers that were cut off
use Rattle.std.proofs.Common.{◌≡◌, sym, subst, refl, List, inl, inr}
use Rattle.std.specs.Prelude.{Result, Ok, Err, OnOk}
use Rattle.gr_io.specs.declared.sinks.SinkError.{SinkError}
use Rattle.gr_io.specs.declared.sinks.SinkError.TheVariants.{Fault, OutOfMemory}
use Rattle.gr_logic.specs.Formulas.{Cnf}
use Rattle.gr_logic.specs.declared.lines.Line.{Line}
use Rattle.gr_dimacs.specs.declared.faults.GrammarFault.{GrammarFault}
use Rattle.gr_run.specs.declared.options.SolveOptions.{SolveOptions}
use Rattle.gr_top.specs.Histories.{IsRefutation}
use Rattle.gr_top.specs.Sinks.{Sinks, OutRose, ProofRose, CutRefutation, LogCut, VerdictCut, CutOutput, InVerdict, CutLog}
use Rattle.gr_top.specs.Solving.{AnswersBy, Answers, IsBare, SparesProof}
use Rattle.gr_top.specs.Statuses.{IsWellWritten, cut_status, end_status}
use Rattle.gr_top.specs.declared.statuses.Status.{Status}
use Rattle.gr_top.specs.declared.statuses.Status.TheVariants as statuses
use Rattle.gr_top.specs.declared.reports.Report.{Report}

-- the output was cut off by this error
pub cut-output-answers : (failed : SinkError) (f : Cnf) (o : SolveOptions) (old new : Sinks) (r : Report)
    → r.status ≡ cut_status failed → IsBare r → CutOutput f o old new → (failed ≡ Fault → OutRose old new)
    → Answers f o old new r
cut-output-answers Fault f o old new r status bare cut why =
    subst (λ s. AnswersBy s f o old new r) (sym status) (inl (why refl, cut), bare)
cut-output-answers OutOfMemory f o old new r status bare cut why =
    subst (λ s. AnswersBy s f o old new r) (sym status) (inr (inl cut), bare)

-- the proof log was cut off by this error
cut-log-answers : (failed : SinkError) (f : Cnf) (o : SolveOptions) (old new : Sinks) (r : Report)
    → r.status ≡ cut_status failed → IsBare r → CutLog f old new → (failed ≡ Fault → ProofRose old new)
    → Answers f o old new r
cut-log-answers Fault f o old new r status bare cut why =
    subst (λ s. AnswersBy s f o old new r) (sym status) (inr (why refl, cut), bare)
cut-log-answers OutOfMemory f o old new r status bare cut why =
    subst (λ s. AnswersBy s f o old new r) (sym status) (inr (inr cut), bare)

-- a refutation was cut off by this error
pub cut-refutation-answers : (failed : SinkError) (f : Cnf) (o : SolveOptions) (lines : List Line) (old new : Sinks)
    → (r : Report) → r.status ≡ cut_status failed → IsBare r → IsRefutation f lines
    → CutRefutation lines old new failed → Answers f o old new r
cut-refutation-answers failed f o lines old new r status bare refutes (LogCut part same why) =
    cut-log-answers failed f o old new r status bare
    (record { lines = lines; refutes = refutes; proof = part; out = same }) why
cut-refutation-answers failed f o lines old new r status bare refutes (VerdictCut whole part why) =
    cut-output-answers failed f o old new r status bare (InVerdict lines refutes whole part) why

-- what holds where a text was written holds beside a status that tells of no failed write
pub where-written : {P : Type 0} (done : Result (Unit {0}) SinkError) (due status : Status)
    → status ≡ end_status done due → IsWellWritten status → OnOk done P → P
where-written (Ok ok) due status is well holds = holds
where-written (Err Fault) due status is well holds = absurd (subst IsWellWritten is well)
where-written (Err OutOfMemory) due status is well holds = absurd (subst IsWellWritten is well)

-- a call that was cut off may have touched the proof log
pub cut-spares-nothing : (failed : SinkError) (status : Status) → status ≡ cut_status failed
    → SparesProof status → ⊥
cut-spares-nothing Fault status is spares = subst SparesProof is spares
cut-spares-nothing OutOfMemory status is spares = subst SparesProof is spares

-- so may one that wrote a refutation, or was to
pub refuting-spares-nothing : (done : Result (Unit {0}) SinkError) (status : Status)
    → status ≡ end_status done statuses.Unsatisfiable → SparesProof status → ⊥
refuting-spares-nothing (Ok ok) status is spares = subst SparesProof is spares
refuting-spares-nothing (Err failed) status is spares = cut-spares-nothing failed status is spares

-- an answer is no failed read
pub answer-is-no-read-fault : (r : Report) (f : Cnf) (o : SolveOptions) (old new : Sinks)
    → r.status ≡ statuses.ReadFault → Answers f o old new r → ⊥
answer-is-no-read-fault r f o old new is answers = subst (λ s. AnswersBy s f o old new r) is answers

-- the line on a fault is no failed read
pub fault-is-no-read-fault : (done : Result (Unit {0}) SinkError) (g : GrammarFault)
    → end_status done (statuses.Grammar g) ≡ statuses.ReadFault → ⊥
fault-is-no-read-fault (Ok ok) g is = absurd (cc)
fault-is-no-read-fault (Err Fault) g is = absurd (cc)
fault-is-no-read-fault (Err OutOfMemory) g is = absurd (cc)
