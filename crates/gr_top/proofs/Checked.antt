-- the check theorem from what each status says
use Rattle.std.proofs.Common.{◌≡◌, ◌∙◌, sym, ap, subst, refl, ℕ, List, inl, inr}
use Rattle.std.specs.Prelude.{Option, Some, None, Result, Ok, Err, OnOk, OnErr, IfErr}
use Rattle.gr_io.specs.Pieces.{Gains, GainsPart, Rose}
use Rattle.gr_io.specs.declared.sinks.SinkError.{SinkError}
use Rattle.gr_io.specs.declared.sinks.SinkError.TheVariants as sink_errors
use Rattle.gr_logic.specs.Formulas.{Cnf}
use Rattle.gr_dimacs.specs.Faults.{fault_of}
use Rattle.gr_dimacs.specs.Reads.{program_limits, IsFormulaOf, Reads}
use Rattle.gr_dimacs.specs.declared.faults.GrammarFault.{GrammarFault}
use Rattle.gr_dimacs.specs.declared.faults.ReadError.TheVariants as read_errors
use Rattle.gr_dimacs.proofs.Unique.{spelled-once}
use Rattle.gr_lrat.specs.Logs.{LogOutcome}
use Rattle.gr_top.specs.CheckTexts.{check_text}
use Rattle.gr_top.specs.CheckedLogs.{outcome_of, Finds, LogGives}
use Rattle.gr_top.specs.Checking.{Sources, Output, formula_taking, IsFormulaRead, IsUnread, IsDue, Judges, ChecksBy, Checks, NothingFailed, IsAnswer}
use Rattle.gr_top.specs.Completeness.{IsRefusal}
use Rattle.gr_top.specs.Solving.{IsBare}
use Rattle.gr_top.specs.Statuses.{end_status, stop_status}
use Rattle.gr_top.specs.declared.statuses.Status.{Status}
use Rattle.gr_top.specs.declared.statuses.Status.TheVariants.{Satisfiable, Unsatisfiable, Unknown, Verified, NotVerified, Usage, Grammar, LogGrammar, ReadFault, SinkFault, OutOfMemory}
use Rattle.gr_top.specs.declared.statuses.Stop.{Stop}
use Rattle.gr_top.specs.declared.statuses.Stop.TheVariants as stops
use Rattle.gr_top.specs.declared.reports.Report.{Report}
use Rattle.gr_top.proofs.Solved.{fault-in, formula-in, no-fault}

-- what is found of a log against the formula that was read
pub log-judges : (given : Result Status Stop) (f : Cnf) (old new : Sources)
    → IsFormulaRead f old new → LogGives given f old.log new.log → Judges given old new
log-judges (Ok Verified) f old new read says = (f, read, says)
log-judges (Ok (NotVerified reason)) f old new read says = (f, read, says)
log-judges (Ok (LogGrammar fault)) f old new read says = (f, read, says)
log-judges (Ok (Grammar g)) f old new read says = absurd says
log-judges (Ok Satisfiable) f old new read says = absurd says
log-judges (Ok Unsatisfiable) f old new read says = absurd says
log-judges (Ok Unknown) f old new read says = absurd says
log-judges (Ok Usage) f old new read says = absurd says
log-judges (Ok ReadFault) f old new read says = absurd says
log-judges (Ok SinkFault) f old new read says = absurd says
log-judges (Ok OutOfMemory) f old new read says = absurd says
log-judges (Err stops.ReadFault) f old new read unread = inr (f, read, unread)
log-judges (Err stops.OutOfMemory) f old new read few = inr (f, read, few)

-- the formula's source failed
pub unread-judges : (old new : Sources) → Rose old.cnf.faults new.cnf.faults
    → Reads program_limits (Err read_errors.ReadFault) old.cnf.text new.cnf.text → new.log ≡ old.log
    → Judges (Err stops.ReadFault) old new
unread-judges old new rose reads kept = inl (rose, reads, kept)

-- memory was wanting for the formula
pub short-judges : (old new : Sources)
    → Reads program_limits (Err read_errors.OutOfMemory) old.cnf.text new.cnf.text → new.log ≡ old.log
    → Judges (Err stops.OutOfMemory) old new
short-judges old new reads kept = inl (reads, kept)

-- a told log has the outcome that was found
found-given : (f : Cnf) (outcome : LogOutcome) (given : List ℕ) (new : Option (List ℕ))
    → Finds f outcome (Some given) new → outcome_of f given ≡ outcome
found-given f outcome given (Some rest) found = found.outcome
found-given f outcome given None found = absurd found

found-outcome : (f : Cnf) (outcome : LogOutcome) (old new : Option (List ℕ)) (given : List ℕ)
    → old ≡ Some given → Finds f outcome old new → outcome_of f given ≡ outcome
found-outcome f outcome old new given is found =
    found-given f outcome given new (subst (λ o. Finds f outcome o new) is found)

-- a told text spells one formula, so the outcome of its log is that of the formula that was read
same-outcome : (s t : Sources) (f g : Cnf) (text given : List ℕ) (outcome : LogOutcome)
    → s.cnf.text ≡ Some text → s.log.text ≡ Some given → IsFormulaOf program_limits text f
    → IsFormulaRead g s t → Finds g outcome s.log.text t.log.text → outcome_of f given ≡ outcome
same-outcome s t f g text given outcome is_text is_given is read found =
    let other : IsFormulaOf program_limits text g = formula-in (formula_taking s t) g text is_text read in
    let same : f ≡ g = spelled-once _ _ f g is.spells other.spells in
    ap (λ h. outcome_of h given) same ∙ found-outcome g outcome s.log.text t.log.text given is_given found

-- a source that failed did fail
unread-failed : (s t : Sources) (old new : Output) → NothingFailed s t old new → IsUnread s t → ⊥
unread-failed s t old new nothing (inl unread) = nothing.cnf unread.0
unread-failed s t old new nothing (inr unread) = nothing.log unread.2.0

-- the outcome of the log is told, where nothing failed
decided : (status : Status) (s t : Sources) (old new : Output) → ChecksBy status s t old new
    → (text log : List ℕ) (f : Cnf) → s.cnf.text ≡ Some text → s.log.text ≡ Some log
    → IsFormulaOf program_limits text f → NothingFailed s t old new → IsAnswer (outcome_of f log) status
decided Verified s t old new says text log f cnf given is nothing =
    same-outcome s t f says.0.0 text log _ cnf given is says.0.1 says.0.2.outcome
decided (NotVerified reason) s t old new says text log f cnf given is nothing =
    same-outcome s t f says.0.0 text log _ cnf given is says.0.1 says.0.2
decided (LogGrammar fault) s t old new says text log f cnf given is nothing =
    same-outcome s t f says.0.0 text log _ cnf given is says.0.1 says.0.2
decided (Grammar g) s t old new says text log f cnf given is nothing =
    absurd (let fault = fault-in (formula_taking s t) text g cnf says.0.0 in let none = is.faultless in cc)
decided ReadFault s t old new says text log f cnf given is nothing = absurd (unread-failed s t old new nothing says.0)
decided SinkFault s t old new says text log f cnf given is nothing = absurd (nothing.out says.0)
decided OutOfMemory s t old new says text log f cnf given is nothing = tt
decided Satisfiable s t old new says text log f cnf given is nothing = absurd says
decided Unsatisfiable s t old new says text log f cnf given is nothing = absurd says
decided Unknown s t old new says text log f cnf given is nothing = absurd says
decided Usage s t old new says text log f cnf given is nothing = absurd says

-- the fault of the formula's text is told, where nothing failed
refused : (status : Status) (s t : Sources) (old new : Output) → ChecksBy status s t old new
    → (text : List ℕ) (g : GrammarFault) → s.cnf.text ≡ Some text → fault_of program_limits text ≡ Some g
    → NothingFailed s t old new → IsRefusal g status
refused Verified s t old new says text g cnf fault nothing =
    no-fault (formula_taking s t) says.0.0 text g cnf says.0.1 fault
refused (NotVerified reason) s t old new says text g cnf fault nothing =
    no-fault (formula_taking s t) says.0.0 text g cnf says.0.1 fault
refused (LogGrammar found) s t old new says text g cnf fault nothing =
    no-fault (formula_taking s t) says.0.0 text g cnf says.0.1 fault
refused (Grammar found) s t old new says text g cnf fault nothing =
    let own = fault-in (formula_taking s t) text found cnf says.0.0 in cc
refused ReadFault s t old new says text g cnf fault nothing = absurd (unread-failed s t old new nothing says.0)
refused SinkFault s t old new says text g cnf fault nothing = absurd (nothing.out says.0)
refused OutOfMemory s t old new says text g cnf fault nothing = tt
refused Satisfiable s t old new says text g cnf fault nothing = absurd says
refused Unsatisfiable s t old new says text g cnf fault nothing = absurd says
refused Unknown s t old new says text g cnf fault nothing = absurd says
refused Usage s t old new says text g cnf fault nothing = absurd says

-- the check theorem holds where the report's status says what it is to say
checks : (status : Status) (s t : Sources) (old new : Output) (r : Report)
    → r.status ≡ status → IsBare r → ChecksBy status s t old new → Checks s t old new r
checks status s t old new r is bare says =
    let said : ChecksBy r.status s t old new = subst (λ v. ChecksBy v s t old new) (sym is) says in
    record {
      answer = said;
      complete = record {
        decided = decided r.status s t old new said;
        refused = refused r.status s t old new said;
      };
      bare = bare;
    }

-- what was found was written
tells : (due : Status) (s t : Sources) (old new : Output)
    → IsDue due s t → Gains (check_text due) old.text new.text → ChecksBy due s t old new
tells Verified s t old new says gains = (says, gains)
tells (NotVerified reason) s t old new says gains = (says, gains)
tells (Grammar g) s t old new says gains = (says, gains)
tells (LogGrammar fault) s t old new says gains = (says, gains)
tells Satisfiable s t old new says gains = absurd says
tells Unsatisfiable s t old new says gains = absurd says
tells Unknown s t old new says gains = absurd says
tells Usage s t old new says gains = absurd says
tells ReadFault s t old new says gains = absurd says
tells SinkFault s t old new says gains = absurd says
tells OutOfMemory s t old new says gains = absurd says

-- what was found was written, or was cut off
pub told-checks : (done : Result (Unit {0}) SinkError) (due : Status) (s t : Sources) (old new : Output) (r : Report)
    → Judges (Ok due) s t
    → OnOk done (Gains (check_text due) old.text new.text)
    → OnErr done (GainsPart (check_text due) old.text new.text)
    → IfErr done (λ e. e ≡ sink_errors.Fault → Rose old.faults new.faults)
    → r.status ≡ end_status done due → IsBare r → Checks s t old new r
told-checks (Ok ok) due s t old new r says whole part why is bare =
    checks due s t old new r is bare (tells due s t old new says whole)
told-checks (Err sink_errors.Fault) due s t old new r says whole part why is bare =
    checks SinkFault s t old new r is bare (why refl, (due, says, part))
told-checks (Err sink_errors.OutOfMemory) due s t old new r says whole part why is bare =
    checks OutOfMemory s t old new r is bare (inr (due, says, part))

-- nothing was found
pub stopped-checks : (stopped : Stop) (s t : Sources) (old new : Output) (r : Report)
    → Judges (Err stopped) s t → new.text ≡ old.text → r.status ≡ stop_status stopped → IsBare r → Checks s t old new r
stopped-checks stops.ReadFault s t old new r unread same is bare = checks ReadFault s t old new r is bare (unread, same)
stopped-checks stops.OutOfMemory s t old new r short same is bare =
    checks OutOfMemory s t old new r is bare (inl (short, same))

no-read-fault : (due : Status) (s t : Sources) → IsDue due s t → due ≡ ReadFault → ⊥
no-read-fault ReadFault s t says is = says
no-read-fault Verified s t says is = cc
no-read-fault (NotVerified reason) s t says is = cc
no-read-fault (Grammar g) s t says is = cc
no-read-fault (LogGrammar fault) s t says is = cc
no-read-fault Satisfiable s t says is = says
no-read-fault Unsatisfiable s t says is = says
no-read-fault Unknown s t says is = says
no-read-fault Usage s t says is = says
no-read-fault SinkFault s t says is = says
no-read-fault OutOfMemory s t says is = says

-- where something is told of the two texts, no read failed
pub due-is-no-read-fault : (done : Result (Unit {0}) SinkError) (due : Status) (s t : Sources)
    → Judges (Ok due) s t → end_status done due ≡ ReadFault → ⊥
due-is-no-read-fault (Ok ok) due s t says is = no-read-fault due s t says is
due-is-no-read-fault (Err sink_errors.Fault) due s t says is = cc
due-is-no-read-fault (Err sink_errors.OutOfMemory) due s t says is = cc
