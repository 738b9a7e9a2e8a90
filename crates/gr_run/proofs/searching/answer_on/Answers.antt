use Rattle.std.proofs.Common.{refl, sym, ◌∙◌, subst}
use Rattle.gr_search.specs.declared.asks.Ask.TheVariants as ask
use Rattle.gr_run.specs.Shared.{HasWaited}
use Rattle.gr_run.proofs.SeatAnswers.{SeatTold, id-is-told, import-is-told, forget-is-told, id-wants, import-wants, forget-wants}
use Rattle.gr_run.proofs.SeatRuns.{on-err}
use Rattle.gr_run.proofs.searching.answer_on.Goals as goal

pub returns-in_err-told-in-Learn-clause-err : goal.returns-in_err-told-in-Learn-clause-err
returns-in_err-told-in-Learn-clause-err g c =
    on-err c.from_residual.result (HasWaited c.args.seat.now c.learn.new.seat)
    (id-wants c.args.seat.now c.learn.new.seat c.requires.solver c.learn.ensures.turn.sees
    c.learn.result c.in_err-told-in-Learn.field-0.0 c.learn.ensures.err
    (sym c.tell_learnt.ensures ∙ c.in_err-told-in-Learn.was))

pub returns-in_err-told-in-Unit-clause-err : goal.returns-in_err-told-in-Unit-clause-err
returns-in_err-told-in-Unit-clause-err g c =
    on-err c.from_residual-in_err-told-in-Unit.result (HasWaited c.args.seat.now c.solver_unit.new.seat)
    (id-wants c.args.seat.now c.solver_unit.new.seat c.requires.solver c.solver_unit.ensures.turn.sees
    c.solver_unit.result c.in_err-told-in-Unit.field-0.0
    c.solver_unit.ensures.err (sym c.tell_id.ensures ∙ c.in_err-told-in-Unit.was))

pub returns-in_err-told-in-Import-clause-err : goal.returns-in_err-told-in-Import-clause-err
returns-in_err-told-in-Import-clause-err g c =
    on-err c.from_residual-in_err-told-in-Import.result (HasWaited c.args.seat.now c.import.new.seat)
    (import-wants c.args.seat.now c.import.new.seat c.requires.solver c.import.ensures.turn.sees
    c.import.result c.in_err-told-in-Import.field-0.0
    c.import.ensures.err (sym c.tell_import.ensures ∙ c.in_err-told-in-Import.was))

pub returns-in_err-told-in-Forget-clause-err : goal.returns-in_err-told-in-Forget-clause-err
returns-in_err-told-in-Forget-clause-err g c =
    on-err c.from_residual-in_err-told-in-Forget.result (HasWaited c.args.seat.now c.solver_forget.new.seat)
    (forget-wants c.args.seat.now c.solver_forget.new.seat c.requires.solver c.solver_forget.ensures.turn.sees
    c.solver_forget.result c.in_err-told-in-Forget.field-0.0
    c.solver_forget.ensures.err (sym c.tell_forget.ensures ∙ c.in_err-told-in-Forget.was))

pub returns-in_ok-told-in-Learn-clause-ok : goal.returns-in_ok-told-in-Learn-clause-ok
returns-in_ok-told-in-Learn-clause-ok g c =
    let x = c.args.seat.now in
    let y = c.learn.new.seat in
    let told = c.in_ok-told-in-Learn.told in
    let of = c.in-Learn in
    subst (λ a. SeatTold x y a told) (sym of.is)
    (id-is-told x y c.requires.solver c.learn.ensures.turn.sees
    (ask.Learn of.clause of.hints of.lbd of.offered) c.learn.result told refl
    c.learn.ensures.ok c.learn.ensures.err c.learn.ensures.closed
    (sym c.tell_learnt.ensures ∙ c.in_ok-told-in-Learn.was))

pub returns-in_ok-told-in-Unit-clause-ok : goal.returns-in_ok-told-in-Unit-clause-ok
returns-in_ok-told-in-Unit-clause-ok g c =
    let x = c.args.seat.now in
    let y = c.solver_unit.new.seat in
    let told = c.in_ok-told-in-Unit.told in
    subst (λ a. SeatTold x y a told) (sym c.in-Unit.is)
    (id-is-told x y c.requires.solver c.solver_unit.ensures.turn.sees
    (ask.Unit c.in-Unit.lit c.in-Unit.hints) c.solver_unit.result told refl
    c.solver_unit.ensures.ok c.solver_unit.ensures.err c.solver_unit.ensures.closed
    (sym c.tell_id.ensures ∙ c.in_ok-told-in-Unit.was))

pub returns-in_ok-told-in-Import-clause-ok : goal.returns-in_ok-told-in-Import-clause-ok
returns-in_ok-told-in-Import-clause-ok g c =
    let x = c.args.seat.now in
    let y = c.import.new.seat in
    let told = c.in_ok-told-in-Import.told in
    subst (λ a. SeatTold x y a told) (sym c.in-Import.is)
    (import-is-told x y c.requires.solver c.import.ensures.turn.sees
    c.import.result told c.import.ensures.ok c.import.ensures.err c.import.ensures.closed
    (sym c.tell_import.ensures ∙ c.in_ok-told-in-Import.was))

pub returns-in_ok-told-in-Forget-clause-ok : goal.returns-in_ok-told-in-Forget-clause-ok
returns-in_ok-told-in-Forget-clause-ok g c =
    let x = c.args.seat.now in
    let y = c.solver_forget.new.seat in
    let told = c.in_ok-told-in-Forget.told in
    subst (λ a. SeatTold x y a told) (sym c.in-Forget.is)
    (forget-is-told x y c.requires.solver c.solver_forget.ensures.turn.sees
    c.in-Forget.ids c.solver_forget.result told c.solver_forget.ensures.ok
    c.solver_forget.ensures.err c.solver_forget.ensures.closed
    (sym c.tell_forget.ensures ∙ c.in_ok-told-in-Forget.was))
