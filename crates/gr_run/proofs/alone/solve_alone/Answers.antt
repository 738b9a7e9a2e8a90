use Rattle.std.proofs.Common.{sym, ap, ◌∙◌, subst, All}
use Rattle.gr_diary.specs.Diaries.{Journal}
use Rattle.gr_bench.specs.Exchanges.{IsSameExchange}
use Rattle.gr_run.specs.Runs.{IsRun}
use Rattle.gr_run.specs.Answers.{settled}
use Rattle.gr_run.specs.Verdicts.{verdict_of, model_of}
use Rattle.gr_run.specs.Offers.{IsOfferedUpTo}
use Rattle.gr_run.proofs.OwnExchange.{same-after, at-exchange, closed-at-last, offered-at-last}
use Rattle.gr_run.proofs.Reports.{reported, run-at, tells-at, ids-at}
use Rattle.gr_run.proofs.alone.solve_alone.Goals as goal

pub returns-clause-ran : goal.returns-clause-ran
returns-clause-ran c =
    let f = c.args.formula.now in
    let o = c.args.options.now in
    let x = c.in_ok-bench.bench in
    let y = c.drive.new.bench in
    let z = c.close-closing.new.self in
    let v = c.in_ok-search.search.state in
    let begun = c.in_ok-search.ensures.begun in
    let what = c.in_ok-found.found in
    let closing = c.close-closing.result in
    let last = closed-at-last y z v.limit v.keep_all what closing c.in_ok-found.ensures.found
    c.close-closing.ensures.done c.close-closing.ensures.already c.close-closing.ensures.closed in
    let exchange : IsSameExchange x z = same-after x y z c.drive.ensures.same last.0 in
    let reducers = c.in_ok-bench.ensures.reducers ∙ sym c.requires.alone in
    let diary = c.report.ensures.diary ∙ c.into_diary.ensures.diary in
    let run : IsRun z.formula z.reducers z.capacity v.limit v.keep_all z.diary.entries (settled what closing) =
    at-exchange (λ g n w. IsRun g n w v.limit v.keep_all z.diary.entries (settled what closing)) y z last.0 last.1 in
    reported f o (settled what closing) c.report.result
    (c.report.ensures.verdict ∙ ap verdict_of c.settle.ensures)
    (c.report.ensures.model ∙ ap model_of c.settle.ensures)
    (tells-at f o x z c.in_ok-bench.ensures.formula reducers c.in_ok-bench.ensures.capacity exchange
    c.report.result.diary diary c.into_diary.ensures.tells)
    (ids-at f o x z c.in_ok-bench.ensures.formula reducers c.in_ok-bench.ensures.capacity exchange
    c.report.result.diary diary c.into_diary.ensures.tells c.into_diary.ensures.few c.clauses-few.ensures.few)
    (run-at f o x z c.in_ok-bench.ensures.formula reducers c.in_ok-bench.ensures.capacity exchange v.limit v.keep_all
    (settled what closing) c.report.result.diary begun.limited begun.keeps diary run)

pub returns-clause-offered : goal.returns-clause-offered
returns-clause-offered c =
    let o = c.args.options.now in
    let y = c.drive.new.bench in
    let z = c.close-closing.new.self in
    let v = c.in_ok-search.search.state in
    let diary = c.report.ensures.diary ∙ c.into_diary.ensures.diary in
    subst (λ (d : Journal). All (IsOfferedUpTo o.offer) d.entries) (sym diary)
    (offered-at-last y z c.close-closing.result o.offer c.in_ok-found.ensures.offered c.close-closing.ensures.done
    c.close-closing.ensures.already)
