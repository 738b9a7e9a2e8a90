use Rattle.std.proofs.Common.{sym, subst}
use Rattle.gr_reducer.proofs.Sights.{sees-on}
use Rattle.gr_strengthen.specs.Families.{cited_family}
use Rattle.gr_strengthen.specs.Outcomes.{HasItsUnits, IsNextUnit}
use Rattle.gr_strengthen.specs.Strengtheners.{StrengthenerState}
use Rattle.gr_reducer.proofs.units.share_units.Goals as goal

pub loop-preserved : goal.loop-preserved
loop-preserved g c = record {
  sees = sees-on c.args.seat.now c.loop.seat c.share_unit.new.seat c.loop.invariant.sees c.share_unit.ensures.sees;
  in_step = c.in_ok-share_unit-in-Some-2.ensures.in_step;
  taken = λ id clause has. c.in_ok-share_unit-in-Some-2.ensures.taken id clause (c.loop.invariant.taken id clause has);
}

pub returns-in-None-2-clause-units : goal.returns-in-None-2-clause-units
returns-in-None-2-clause-units g c =
    let k = c.loop.keeping.strengthener in
    subst (λ (s : StrengthenerState). HasItsUnits (cited_family s.formula s.kept)) (sym c.in_ok-unit.ensures.same)
    (subst (IsNextUnit (cited_family k.formula k.kept) k.formula.vars) c.in-None-2.is c.in_ok-unit.ensures.unit)
