-- the ways in which a call ends
use Rattle.std.proofs.Common.{arith, ◌≡◌, sym, subst, refl, ℕ, List, [], inl, inr}
use Rattle.std.specs.Prelude.{Option, Some, None, Result, Ok, Err, OnOk, OnErr, IfErr}
use Rattle.gr_io.specs.Pieces.{Gains, GainsPart}
use Rattle.gr_io.specs.declared.sinks.SinkError.{SinkError}
use Rattle.gr_io.specs.declared.sinks.SinkError.TheVariants as sink_errors
use Rattle.gr_logic.specs.Formulas.{Cnf}
use Rattle.gr_dimacs.specs.Reads.{program_limits, Reads}
use Rattle.gr_dimacs.specs.declared.faults.GrammarFault.{GrammarFault}
use Rattle.gr_dimacs.specs.declared.faults.ReadError.TheVariants as read_errors
use Rattle.gr_run.specs.declared.options.SolveOptions.{SolveOptions}
use Rattle.gr_top.specs.Sinks.{OutRose, IsUntouched}
use Rattle.gr_top.specs.Texts.{fault_text, usage_text}
use Rattle.gr_top.specs.Streams.{Streams, taking, ReadRose, IsReadFrom, IsFaultIn}
use Rattle.gr_top.specs.Solving.{AnswersBy, Answers, SolvesBy, Solves, IsBare}
use Rattle.gr_top.specs.Refusing.{RefusesBy, Refuses}
use Rattle.gr_top.specs.Statuses.{end_status}
use Rattle.gr_top.specs.declared.statuses.Status.{Status}
use Rattle.gr_top.specs.declared.statuses.Status.TheVariants.{Satisfiable, Unsatisfiable, Unknown, Verified, NotVerified, Usage, Grammar, LogGrammar, ReadFault, SinkFault, OutOfMemory}
use Rattle.gr_top.specs.declared.reports.Report.{Report}
use Rattle.gr_top.proofs.Solved.{solves}

-- an answer on the formula that was read solves its text
answer-says : (status : Status) (o : SolveOptions) (old new : Streams) (f : Cnf) (r : Report)
    → IsReadFrom (taking old new) f → AnswersBy status f o old.sinks new.sinks r → SolvesBy status o old new r
answer-says Satisfiable o old new f r read says = (f, read, says)
answer-says Unsatisfiable o old new f r read says = (f, read, says)
answer-says Unknown o old new f r read says = (f, read, says)
answer-says SinkFault o old new f r read says = inl (f, read, says)
answer-says OutOfMemory o old new f r read says = (inr (inr (f, read, says.0)), says.1)
answer-says Usage o old new f r read says = absurd says
answer-says Verified o old new f r read says = absurd says
answer-says (NotVerified reason) o old new f r read says = absurd says
answer-says (LogGrammar fault) o old new f r read says = absurd says
answer-says (Grammar g) o old new f r read says = absurd says
answer-says ReadFault o old new f r read says = absurd says

pub answer-solves : (o : SolveOptions) (old new : Streams) (f : Cnf) (r : Report)
    → IsReadFrom (taking old new) f → Answers f o old.sinks new.sinks r → Solves o old new r
answer-solves o old new f r read says = solves o old new r (answer-says r.status o old new f r read says)

-- a report with this status
with-status : (status : Status) (o : SolveOptions) (old new : Streams) (r : Report) → r.status ≡ status
    → SolvesBy status o old new r → Solves o old new r
with-status status o old new r is says = solves o old new r (subst (λ s. SolvesBy s o old new r) (sym is) says)

-- the line on the text's fault was written, or was cut off
pub fault-solves : (done : Result (Unit {0}) SinkError) (o : SolveOptions) (old new : Streams)
    → (g : GrammarFault) (r : Report)
    → IsFaultIn (taking old new) g
    → OnOk done (Gains (fault_text g) old.sinks.out new.sinks.out)
    → OnErr done (GainsPart (fault_text g) old.sinks.out new.sinks.out)
    → IfErr done (λ e. e ≡ sink_errors.Fault → OutRose old.sinks new.sinks)
    → new.sinks.proof ≡ old.sinks.proof
    → r.status ≡ end_status done (Grammar g) → IsBare r → Solves o old new r
fault-solves (Ok ok) o old new g r fault whole part why proof is bare =
    with-status (Grammar g) o old new r is (fault, record { out = whole; proof = proof }, bare)
fault-solves (Err sink_errors.Fault) o old new g r fault whole part why proof is bare =
    with-status SinkFault o old new r is (inr (why refl, (g, fault, record { out = part; proof = proof }), bare))
fault-solves (Err sink_errors.OutOfMemory) o old new g r fault whole part why proof is bare =
    with-status OutOfMemory o old new r is (inr (inl (g, fault, record { out = part; proof = proof })), bare)

-- the text could not be read
pub read-fault-solves : (o : SolveOptions) (old new : Streams) (r : Report)
    → ReadRose old new → Reads program_limits (Err read_errors.ReadFault) old.text new.text
    → IsUntouched old.sinks new.sinks → r.status ≡ ReadFault → IsBare r → Solves o old new r
read-fault-solves o old new r rose undecided same is bare =
    with-status ReadFault o old new r is (rose, undecided, same, bare)

-- there was no memory to read the text
pub no-memory-solves : (o : SolveOptions) (old new : Streams) (r : Report)
    → Reads program_limits (Err read_errors.OutOfMemory) old.text new.text
    → IsUntouched old.sinks new.sinks → r.status ≡ OutOfMemory → IsBare r → Solves o old new r
no-memory-solves o old new r reads same is bare = with-status OutOfMemory o old new r is (inl (reads, same), bare)

-- the usage text was written, or was cut off
pub usage-refuses : (done : Result (Unit {0}) SinkError) (old new : Streams) (r : Report)
    → OnOk done (Gains usage_text old.sinks.out new.sinks.out)
    → OnErr done (GainsPart usage_text old.sinks.out new.sinks.out)
    → IfErr done (λ e. e ≡ sink_errors.Fault → OutRose old.sinks new.sinks)
    → new.sinks.proof ≡ old.sinks.proof → new.text ≡ old.text → new.read_faults ≡ old.read_faults
    → r.status ≡ end_status done Usage → IsBare r → Refuses old new r
usage-refuses done old new r whole part why proof text faults is bare = record {
  answer = subst (λ s. RefusesBy s old.sinks new.sinks) (sym is) (says done whole part why);
  bare = bare;
  text = text;
  read_faults = faults;
}
  where
    says : (done : Result (Unit {0}) SinkError)
        → OnOk done (Gains usage_text old.sinks.out new.sinks.out)
        → OnErr done (GainsPart usage_text old.sinks.out new.sinks.out)
        → IfErr done (λ e. e ≡ sink_errors.Fault → OutRose old.sinks new.sinks)
        → RefusesBy (end_status done Usage) old.sinks new.sinks
    says (Ok ok) whole part why = record { out = whole; proof = proof }
    says (Err sink_errors.Fault) whole part why = (why refl, record { out = part; proof = proof })
    says (Err sink_errors.OutOfMemory) whole part why = record { out = part; proof = proof }

-- where nothing was read, memory may have been wanting
pub nothing-read : (text : Option (List ℕ)) → Reads program_limits (Err read_errors.OutOfMemory) text text
nothing-read (Some text) = record { taken = []; split = refl; within = omega arith; answers = tt; through = tt }
nothing-read None = tt
