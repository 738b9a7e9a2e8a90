-- what a report says of a formula that was made
use Rattle.std.proofs.Common.{◌≡◌, ◌∙◌, sym, subst, refl, ℕ, All, inl, inr}
use Rattle.std.specs.Prelude.{Result, Ok, Err, OnOk, OnErr, IfErr}
use Rattle.gr_io.specs.Pieces.{Gains, GainsPart, Rose}
use Rattle.gr_io.specs.declared.sinks.SinkError.{SinkError}
use Rattle.gr_io.specs.declared.sinks.SinkError.TheVariants as sink_errors
use Rattle.gr_run.specs.Offers.{IsOfferedUpTo}
use Rattle.gr_run.specs.Results.{IsRan}
use Rattle.gr_run.specs.declared.results.Ran.{Ran}
use Rattle.gr_run.specs.declared.results.Verdict.TheVariants as verdicts
use Rattle.gr_words.specs.declared.calls.Kind.{Kind}
use Rattle.gr_top.specs.Checking.{Output}
use Rattle.gr_top.specs.Commands.{default_options}
use Rattle.gr_top.specs.MadeTexts.{refuted_lines}
use Rattle.gr_top.specs.Making.{formula_made, text_made, IsRefutedIn, IsSpentIn, MakesBy, Makes}
use Rattle.gr_top.specs.Reporting.{Reports}
use Rattle.gr_top.specs.Solving.{IsBare}
use Rattle.gr_top.specs.Statuses.{end_status}
use Rattle.gr_top.specs.Texts.{unknown_line}
use Rattle.gr_top.specs.declared.statuses.Status.TheVariants.{Unsatisfiable, Unknown, OutOfMemory}
use Rattle.gr_top.specs.declared.reports.Report.{Report}
use Rattle.gr_top.proofs.Reported.{history-of, refuted-of, refutation-of, spent-of}

-- memory was wanting before anything was written
pub no-memory-makes : (kind : Kind) (n : ℕ) (old new : Output) (r : Report)
    → new.text ≡ old.text → r.status ≡ OutOfMemory → IsBare r → Makes kind n old new r
no-memory-makes kind n old new r same status bare =
    subst (λ s. MakesBy s kind n old new r) (sym status) (inl same, bare)

module _ (kind : Kind) (n : ℕ) (ran : Ran) (is : IsRan (formula_made kind n) default_options ran)
    (offered : All (IsOfferedUpTo default_options.offer) ran.diary.entries)
    (old new : Output) (r : Report)
  where
    -- a run that refuted the formula
    refuted-in : ran.verdict ≡ verdicts.Unsatisfiable → IsRefutedIn (formula_made kind n) ran.diary
    refuted-in verdict = record {
      history = history-of (formula_made kind n) default_options ran is offered;
      empty = refuted-of (formula_made kind n) default_options ran is verdict;
      refutes = refutation-of (formula_made kind n) default_options ran is
          (refuted-of (formula_made kind n) default_options ran is verdict);
    }

    -- one that spent its limit
    spent-in : ran.verdict ≡ verdicts.Unknown → IsSpentIn (formula_made kind n) ran.diary
    spent-in verdict = record {
      history = history-of (formula_made kind n) default_options ran is offered;
      spent = spent-of (formula_made kind n) default_options ran is verdict;
    }

    -- the summary of a refutation was written, or was cut off
    pub refuted-makes : (done : Result (Unit {0}) SinkError) → ran.verdict ≡ verdicts.Unsatisfiable
        → OnOk done (Gains (text_made kind n refuted_lines) old.text new.text)
        → OnErr done (GainsPart (text_made kind n refuted_lines) old.text new.text)
        → IfErr done (λ e. e ≡ sink_errors.Fault → Rose old.faults new.faults)
        → r.status ≡ end_status done Unsatisfiable → Reports done ran r → Makes kind n old new r
    refuted-makes (Ok ok) verdict whole part why status reports =
        subst (λ s. MakesBy s kind n old new r) (sym status) (
          subst (IsRefutedIn (formula_made kind n)) (sym reports.1) (refuted-in verdict),
          whole,
          reports.0 ∙ is.bare (λ other. absurd (cc)),
        )
    refuted-makes (Err sink_errors.Fault) verdict whole part why status bare =
        subst (λ s. MakesBy s kind n old new r) (sym status)
        (why refl, inl (ran.diary, refuted-in verdict, part), bare)
    refuted-makes (Err sink_errors.OutOfMemory) verdict whole part why status bare =
        subst (λ s. MakesBy s kind n old new r) (sym status)
        (inr (inl (ran.diary, refuted-in verdict, part)), bare)

    -- that of a spent limit was written, or was cut off
    pub spent-makes : (done : Result (Unit {0}) SinkError) → ran.verdict ≡ verdicts.Unknown
        → OnOk done (Gains (text_made kind n unknown_line) old.text new.text)
        → OnErr done (GainsPart (text_made kind n unknown_line) old.text new.text)
        → IfErr done (λ e. e ≡ sink_errors.Fault → Rose old.faults new.faults)
        → r.status ≡ end_status done Unknown → Reports done ran r → Makes kind n old new r
    spent-makes (Ok ok) verdict whole part why status reports =
        subst (λ s. MakesBy s kind n old new r) (sym status) (
          subst (IsSpentIn (formula_made kind n)) (sym reports.1) (spent-in verdict),
          whole,
          reports.0 ∙ is.bare (λ other. absurd (cc)),
        )
    spent-makes (Err sink_errors.Fault) verdict whole part why status bare =
        subst (λ s. MakesBy s kind n old new r) (sym status)
        (why refl, inr (ran.diary, spent-in verdict, part), bare)
    spent-makes (Err sink_errors.OutOfMemory) verdict whole part why status bare =
        subst (λ s. MakesBy s kind n old new r) (sym status)
        (inr (inr (ran.diary, spent-in verdict, part)), bare)
