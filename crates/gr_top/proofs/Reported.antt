-- what a run's report says
use Rattle.std.proofs.Common.{◌≡◌, ◌∙◌, sym, ap, subst, refl, ◌+◌, ◌<◌, ◌*◌, ◌^◌, length, All}
use Rattle.std.specs.Prelude.{Result, Ok, Err, OnOk, OnErr, IfOk, IfErr}
use Rattle.gr_io.specs.Pieces.{Gains, GainsPart}
use Rattle.gr_io.specs.declared.sinks.SinkError.{SinkError}
use Rattle.gr_io.specs.declared.sinks.SinkError.TheVariants as sink_errors
use Rattle.gr_logic.specs.Formulas.{Cnf}
use Rattle.gr_logic.specs.Log.{HasIds}
use Rattle.gr_logic.specs.declared.memory.OutOfMemory.{OutOfMemory}
use Rattle.gr_logic.specs.declared.items.Strengthened.TheVariants.{Shorter}
use Rattle.gr_diary.specs.declared.entries.Entry.TheVariants.{Return}
use Rattle.gr_diary.specs.Diaries.{Journal, journal_lines}
use Rattle.gr_diary.specs.Histories.{IsLegal, AddsEmptyClause}
use Rattle.gr_diary.proofs.Budget.{kept-clauses-are-few, spared-clauses-are-few}
use Rattle.gr_diary.proofs.Following.{refuted-is-accepted}
use Rattle.gr_diary.proofs.Sound.{added-are-implied}
use Rattle.gr_diary.proofs.Taken.{returned-clauses-are-parts}
use Rattle.gr_diary.proofs.Telling.{telling}
use Rattle.gr_history.specs.HistoryLogs.{lines_in}
use Rattle.gr_run.specs.Offers.{IsOfferedUpTo}
use Rattle.gr_run.specs.Results.{IsRan}
use Rattle.gr_run.specs.Runs.{Satisfies}
use Rattle.gr_run.specs.declared.options.SolveOptions.{SolveOptions}
use Rattle.gr_run.specs.declared.results.Ran.{Ran}
use Rattle.gr_run.specs.declared.results.Verdict.TheVariants as verdicts
use Rattle.gr_top.specs.Histories.{IsHistory, IsRefutation, IsSpent, log_of}
use Rattle.gr_top.specs.Reporting.{Reports}
use Rattle.gr_top.specs.Sinks.{Sinks, OutRose, Tells, InModel, InUnknown, TellsRefutation, CutRefutation}
use Rattle.gr_top.specs.Solving.{AnswersBy, Answers}
use Rattle.gr_top.specs.Statuses.{end_status}
use Rattle.gr_top.specs.Texts.{satisfiable_text, unknown_line}
use Rattle.gr_top.specs.declared.statuses.Status.TheVariants.{Satisfiable, Unsatisfiable, Unknown}
use Rattle.gr_top.specs.declared.reports.Report.{Report}
use Rattle.gr_top.proofs.Answered.{cut-output-answers, cut-refutation-answers}

module _ (f : Cnf) (o : SolveOptions) (ran : Ran) (is : IsRan f o ran) where
  -- the run's diary is one legal history
  pub history-of : All (IsOfferedUpTo o.offer) ran.diary.entries → IsHistory f o ran.diary
  history-of offered = record {
    tells = is.tells;
    ended = is.ended;
    offered = offered;
    returned = λ before actor c hints later splits.
        let legal = subst (IsLegal f o.reducers o.capacity) splits is.tells.legal in (
          returned-clauses-are-parts f o.reducers o.capacity before actor c hints later legal,
          added-are-implied f o.reducers o.capacity before (Return actor (Shorter c hints)) later
              (record { clause = c; hints = hints }) legal refl,
        );
  }

  -- its lines are the run's log
  pub lines-of : lines_in ran.diary ≡ log_of f o ran.diary
  lines-of =
      ap (λ first. journal_lines first ran.diary.entries ran.diary.left) is.tells.first
      ∙ (ap (journal_lines (length f.clauses + 1) ran.diary.entries) is.tells.left
      ∙ telling f o.reducers o.capacity ran.diary.entries)

  -- the verdict is that the formula is unsatisfiable just where the empty clause was added
  pub refuted-of : ran.verdict ≡ verdicts.Unsatisfiable → AddsEmptyClause ran.diary.entries
  refuted-of verdict = is.unsatisfiable.0 verdict

  pub open-of-model : ran.verdict ≡ verdicts.Satisfiable → AddsEmptyClause ran.diary.entries → ⊥
  open-of-model verdict adds = let other = is.unsatisfiable.1 adds in absurd (cc)

  pub open-of-spent : ran.verdict ≡ verdicts.Unknown → AddsEmptyClause ran.diary.entries → ⊥
  open-of-spent verdict adds = let other = is.unsatisfiable.1 adds in absurd (cc)

  -- where it was added, the log refutes the formula
  pub refutation-of : AddsEmptyClause ran.diary.entries → IsRefutation f (log_of f o ran.diary)
  refutation-of adds = record {
    accepted = refuted-is-accepted f o.reducers o.capacity ran.diary.entries is.tells.legal adds;
    ids = is.ids;
  }

  -- an undecided run spent its limit
  pub spent-of : ran.verdict ≡ verdicts.Unknown → IsSpent f o ran.diary
  spent-of verdict = record {
    learns = is.unknown verdict;
    unrefuted = open-of-spent verdict;
    keeping = λ keeps.
        subst (λ n. n < 3 ^ f.vars) (is.unknown verdict)
        (kept-clauses-are-few f o.reducers o.capacity ran.diary.entries is.tells.legal is.ended.rules.fresh
        (is.ended.kept keeps) (open-of-spent verdict));
    sparing = λ q enough.
        subst (λ n. n < q * 3 ^ f.vars) (is.unknown verdict)
        (spared-clauses-are-few f o.reducers o.capacity ran.diary.entries is.tells.legal is.ended.rules.fresh
        is.ended.rules.spares (open-of-spent verdict) q enough);
  }

  module _ (offered : All (IsOfferedUpTo o.offer) ran.diary.entries) (old new : Sinks) (r : Report) where
    -- the model was written, or was cut off
    pub model-answers : (done : Result (Unit {0}) SinkError) → ran.verdict ≡ verdicts.Satisfiable
        → OnOk done (Gains (satisfiable_text ran.model) old.out new.out)
        → OnErr done (GainsPart (satisfiable_text ran.model) old.out new.out)
        → IfErr done (λ e. e ≡ sink_errors.Fault → OutRose old new) → new.proof ≡ old.proof
        → r.status ≡ end_status done Satisfiable → Reports done ran r → Answers f o old new r
    model-answers (Ok ok) verdict whole part why proof status reports =
        subst (λ s. AnswersBy s f o old new r) (sym status) (record {
          history = subst (IsHistory f o) (sym reports.1) (history-of offered);
          unrefuted = subst (λ (d : Journal). AddsEmptyClause d.entries → ⊥) (sym reports.1) (open-of-model verdict);
          model = subst (Satisfies f) (sym reports.0) (is.satisfiable verdict);
          told = subst (λ model. Tells (satisfiable_text model) old new) (sym reports.0)
              (record { out = whole; proof = proof });
        })
    model-answers (Err failed) verdict whole part why proof status bare =
        cut-output-answers failed f o old new r status bare
        (InModel ran.model (is.satisfiable verdict) (record { out = part; proof = proof })) why

    -- the log and the verdict on it were written, or were cut off
    pub refutation-answers : (done : Result (Unit {0}) SinkError) → ran.verdict ≡ verdicts.Unsatisfiable
        → OnOk done (TellsRefutation (lines_in ran.diary) old new)
        → IfErr done (CutRefutation (lines_in ran.diary) old new)
        → r.status ≡ end_status done Unsatisfiable → Reports done ran r → Answers f o old new r
    refutation-answers (Ok ok) verdict told cut status reports =
        subst (λ s. AnswersBy s f o old new r) (sym status) (record {
          history = subst (IsHistory f o) (sym reports.1) (history-of offered);
          empty = subst (λ (d : Journal). AddsEmptyClause d.entries) (sym reports.1) (refuted-of verdict);
          refutes = subst (λ (d : Journal). IsRefutation f (log_of f o d)) (sym reports.1)
              (refutation-of (refuted-of verdict));
          told = subst (λ (d : Journal). TellsRefutation (log_of f o d) old new) (sym reports.1)
              (subst (λ lines. TellsRefutation lines old new) lines-of told);
          no_model = reports.0 ∙ is.bare (λ other. absurd (cc));
        })
    refutation-answers (Err failed) verdict told cut status bare =
        cut-refutation-answers failed f o (log_of f o ran.diary) old new r status bare
        (refutation-of (refuted-of verdict)) (subst (λ lines. CutRefutation lines old new failed) lines-of cut)

    -- it was written that the limit was spent, or that was cut off
    pub unknown-answers : (done : Result (Unit {0}) SinkError) → ran.verdict ≡ verdicts.Unknown
        → OnOk done (Gains unknown_line old.out new.out) → OnErr done (GainsPart unknown_line old.out new.out)
        → IfErr done (λ e. e ≡ sink_errors.Fault → OutRose old new) → new.proof ≡ old.proof
        → r.status ≡ end_status done Unknown → Reports done ran r → Answers f o old new r
    unknown-answers (Ok ok) verdict whole part why proof status reports =
        subst (λ s. AnswersBy s f o old new r) (sym status) (record {
          history = subst (IsHistory f o) (sym reports.1) (history-of offered);
          spent = subst (IsSpent f o) (sym reports.1) (spent-of verdict);
          told = record { out = whole; proof = proof };
          no_model = reports.0 ∙ is.bare (λ other. absurd (cc));
        })
    unknown-answers (Err failed) verdict whole part why proof status bare =
        cut-output-answers failed f o old new r status bare
        (InUnknown ran.diary (history-of offered) (spent-of verdict) (record { out = part; proof = proof })) why

-- a run's lines have ids that fit, where there was memory for it
pub ids-of : (f : Cnf) (o : SolveOptions) (ran : Result Ran OutOfMemory) → IfOk ran (IsRan f o)
    → IfOk ran (λ ran. All HasIds (lines_in ran.diary))
ids-of f o (Ok ran) is = subst (All HasIds) (sym (lines-of f o ran is)) is.ids
ids-of f o (Err want) is = tt
