use Rattle.std.proofs.Common.{◌∙◌, List, sym, ap, subst}
use Rattle.std.specs.FinMap as finite
use Rattle.std.specs.FinSet as set
use Rattle.gr_logic.specs.Literals.{Literal}
use Rattle.gr_strengthen.specs.Strengtheners.{StrengthenerState}
use Rattle.gr_reducer.specs.Steps.{IsInStep}
use Rattle.gr_reducer.proofs.Ables.{may-share}
use Rattle.gr_reducer.proofs.Shares.{after-unit, keeps-taken, unit-is-new}
use Rattle.gr_reducer.proofs.units.share_unit.Goals as goal

pub reducer_unit-requires-clause-able : goal.reducer_unit-requires-clause-able
reducer_unit-requires-clause-able g c =
    may-share c.args.seat.now c.args.keeping.now.strengthener c.requires.in_step c.args.unit.lit c.args.unit.hints
    c.requires.justified

pub keep-requires-clause-above : goal.keep-requires-clause-above
keep-requires-clause-above g c =
    (unit-is-new c.args.seat.now c.reducer_unit.new.seat c.args.keeping.now.strengthener c.args.unit.lit
    c.args.unit.hints c.in-Ok.id c.requires.in_step c.reducer_unit.ensures.turn.sees c.in-Ok.ensures.ok).above

pub keep-requires-clause-unused : goal.keep-requires-clause-unused
keep-requires-clause-unused g c =
    (unit-is-new c.args.seat.now c.reducer_unit.new.seat c.args.keeping.now.strengthener c.args.unit.lit
    c.args.unit.hints c.in-Ok.id c.requires.in_step c.reducer_unit.ensures.turn.sees c.in-Ok.ensures.ok).free

pub returns-in-Ok-clause-in_step : goal.returns-in-Ok-clause-in_step
returns-in-Ok-clause-in_step g c =
    let k = c.args.keeping.now.strengthener in
    let with : List Literal → StrengthenerState =
    λ d. record k { kept = finite.insert k.kept c.in-Ok.id (set.from_list d) } in
    subst (IsInStep c.reducer_unit.new.seat) (sym (c.in_ok-keep-in-Ok.ensures ∙ ap with c.in_ok-clause.ensures))
    (after-unit c.args.seat.now c.reducer_unit.new.seat k c.args.unit.lit c.args.unit.hints c.in-Ok.id
    c.requires.in_step c.reducer_unit.ensures.turn.sees c.in-Ok.ensures.ok)

pub returns-in-Ok-clause-taken : goal.returns-in-Ok-clause-taken
returns-in-Ok-clause-taken g c =
    keeps-taken c.args.seat.now c.reducer_unit.new.seat c.args.keeping.now.strengthener c.args.unit.lit
    c.args.unit.hints c.in-Ok.id c.requires.in_step c.reducer_unit.ensures.turn.sees c.in-Ok.ensures.ok
