use Rattle.std.proofs.Common.{sym, subst, All}
use Rattle.std.specs.Prelude.{OnOk, OnErr}
use Rattle.gr_io.specs.Pieces.{Gains, GainsPart}
use Rattle.gr_logic.specs.Log.{Accepts}
use Rattle.gr_history.specs.HistoryLogs.{lines_in}
use Rattle.gr_run.specs.Offers.{IsOfferedUpTo}
use Rattle.gr_run.specs.Results.{IsRan}
use Rattle.gr_top.specs.MadeTexts.{large_text, refuted_lines}
use Rattle.gr_top.specs.Making.{formula_made}
use Rattle.gr_top.specs.Texts.{unknown_line}
use Rattle.gr_top.proofs.Reported.{lines-of, refuted-of, refutation-of}
use Rattle.gr_top.proofs.Answered.{where-written}
use Rattle.gr_top.proofs.MadeFormulas.{refuted-makes, spent-makes}
use Rattle.gr_top.proofs.made.answer_made.Goals as goal

-- no legal history has a log that is not accepted
pub unreachable-requires : goal.unreachable-requires
unreachable-requires g c =
    let f = c.args.formula.now in
    let o = c.default_options.result in
    let is = c.in-Ok.ensures.ran in
    let refutes = refutation-of f o c.in-Ok.ran is (refuted-of f o c.in-Ok.ran is c.in-Unsatisfiable.is) in
    let accepted : Accepts f (lines_in c.in-Ok.ran.diary) =
    subst (Accepts f) (sym (lines-of f o c.in-Ok.ran is)) refutes.accepted in
    let verified = c.in-Ok-false.ensures.1 accepted in
    let not = c.in-Ok-false.field-0-test in
    absurd (cc)

pub returns-in-Ok-true : goal.returns-in-Ok-true
returns-in-Ok-true g c =
    let kind = c.args.large.kind in
    let n = c.args.large.n in
    let old = g.C.Sink.written c.args.out.now in
    let new = g.C.Sink.written c.write_made-done.new.out in
    let is = subst (λ o. IsRan (formula_made kind n) o c.in-Ok.ran) c.default_options.ensures
    (subst (λ f. IsRan f c.default_options.result c.in-Ok.ran) c.requires.made c.in-Ok.ensures.ran) in
    let offered = subst (λ o. All (IsOfferedUpTo o.offer) c.in-Ok.ran.diary.entries) c.default_options.ensures
    c.in-Ok.ensures.offered in
    let whole = subst (λ f. OnOk c.write_made-done.result (Gains (large_text kind n f refuted_lines) old new))
    c.requires.made c.write_made-done.ensures.ok in
    let part = subst (λ f. OnErr c.write_made-done.result (GainsPart (large_text kind n f refuted_lines) old new))
    c.requires.made c.write_made-done.ensures.err in
    record {
      makes = refuted-makes kind n c.in-Ok.ran is offered _ _ c.reported.result
          c.write_made-done.result c.in-Unsatisfiable.is whole part c.write_made-done.ensures.fault
          c.reported.ensures.status c.reported.ensures.reports;
      calm_out = λ well.
          where-written c.write_made-done.result _ _ c.reported.ensures.status well c.write_made-done.ensures.calm;
    }

pub returns-in-Unknown : goal.returns-in-Unknown
returns-in-Unknown g c =
    let kind = c.args.large.kind in
    let n = c.args.large.n in
    let done = c.write_made-done-in-Unknown.result in
    let old = g.C.Sink.written c.args.out.now in
    let new = g.C.Sink.written c.write_made-done-in-Unknown.new.out in
    let is = subst (λ o. IsRan (formula_made kind n) o c.in-Ok.ran) c.default_options.ensures
    (subst (λ f. IsRan f c.default_options.result c.in-Ok.ran) c.requires.made c.in-Ok.ensures.ran) in
    let offered = subst (λ o. All (IsOfferedUpTo o.offer) c.in-Ok.ran.diary.entries) c.default_options.ensures
    c.in-Ok.ensures.offered in
    let whole = subst (λ f. OnOk done (Gains (large_text kind n f unknown_line) old new)) c.requires.made
    c.write_made-done-in-Unknown.ensures.ok in
    let part = subst (λ f. OnErr done (GainsPart (large_text kind n f unknown_line) old new)) c.requires.made
    c.write_made-done-in-Unknown.ensures.err in
    record {
      makes = spent-makes kind n c.in-Ok.ran is offered _ _ c.reported-in-Unknown.result
          done c.in-Unknown.is whole part c.write_made-done-in-Unknown.ensures.fault
          c.reported-in-Unknown.ensures.status c.reported-in-Unknown.ensures.reports;
      calm_out = λ well.
          where-written done _ _ c.reported-in-Unknown.ensures.status well c.write_made-done-in-Unknown.ensures.calm;
    }
