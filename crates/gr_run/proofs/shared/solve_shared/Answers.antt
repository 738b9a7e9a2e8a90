use Rattle.std.proofs.Common.{rules, sym, ◌∙◌, subst, IfOk}
use Rattle.gr_run.specs.Beside.{HasDiary}
use Rattle.gr_run.specs.Shared.{IsRunFrom}
use Rattle.gr_run.proofs.Beside.{all-beside}
use Rattle.gr_run.proofs.SharedRuns.{ran-of}
use Rattle.gr_run.proofs.shared.solve_shared.Goals as goal

pub diary_of-diary-requires-clause-beside : goal.diary_of-diary-requires-clause-beside
diary_of-diary-requires-clause-beside g c =
    all-beside _ c.seat_all.new.solver c.run_beside-seats.result.1.seat c.in_ok-seats.seats.items
    c.in_ok-seats-2.field-0.items c.seat_all.ensures.same c.run_beside-seats.ensures.searched.sees
    (search rules) (search rules) (search rules)

pub returns-clause-ran : goal.returns-clause-ran
returns-clause-ran g c =
    let f = c.args.formula.now in
    let o = c.args.options.now in
    let h = c.run_beside-seats.result.1.seat in
    let searched = c.run_beside-seats.ensures.searched in
    let place = c.seat_all.ensures.same in
    let first = c.in_ok-bench-2.ensures.fixed in
    let opened = c.in_ok-bench.ensures in
    ran-of f o h
    (searched.sees.same.formula ∙ place.formula ∙ first.formula ∙ opened.formula)
    (searched.sees.same.reducers ∙ place.reducers ∙ first.reducers ∙ opened.reducers)
    (searched.sees.same.capacity ∙ place.capacity ∙ first.capacity ∙ opened.capacity)
    c.in_ok-found.field-0 c.report.result
    (subst (HasDiary h) (sym c.report.ensures.diary) c.diary_of-diary.ensures) c.clauses-few.ensures.few
    (subst (λ found. IfOk found (IsRunFrom o.conflicts o.keep_all h)) c.in_ok-found.was searched.found)
    c.report.ensures.verdict c.report.ensures.model
