use Rattle.std.proofs.Common.{length, ap, ◌∙◌, subst}
use Rattle.gr_trail.specs.Trails.{TrailState}
use Rattle.gr_prop.specs.BaseChanges.{Ends}
use Rattle.gr_strengthen.proofs.Methods.{propagated, settled-holding, conflict-units, all-units, none-seen, unit-seen}
use Rattle.gr_strengthen.proofs.UnitFacts.{lits-long}
use Rattle.gr_strengthen.proofs.strengtheners.Strengthener.next_unit.Goals as goal

pub invariant_of-self-in-Conflict : goal.invariant_of-self-in-Conflict
invariant_of-self-in-Conflict c w =
    propagated c.self.inside.base c.propagate.new.self (c.self.invariant c.if-not-self.false)
    c.propagate.ensures.clauses c.propagate.ensures.grown

pub returns-in-Conflict-clause-unit : goal.returns-in-Conflict-clause-unit
returns-in-Conflict-clause-unit c =
    let s = c.self.inside in
    let new = c.propagate.new.self in
    let h = propagated s.base new (c.self.invariant c.if-not-self.false) c.propagate.ensures.clauses
    c.propagate.ensures.grown in
    none-seen s.formula.now s.base.clauses new.clauses c.args.self.now c.propagate.ensures.clauses c.self.view_is
    (conflict-units s.formula.now new c.in-Conflict.place s.settled h.formula h.grounded
    (subst (λ p. Ends p new) c.in-Conflict.is c.in_ok-propagate.ensures.ends))

pub first_unsettled-self-inside-requires-clause-done : goal.first_unsettled-self-inside-requires-clause-done
first_unsettled-self-inside-requires-clause-done c =
    let h = propagated c.self.inside.base c.propagate.new.self (c.self.invariant c.if-not-self.false)
    c.propagate.ensures.clauses c.propagate.ensures.grown in
    h.grounded.done

pub invariant_of-self-then-self-lits : goal.invariant_of-self-then-self-lits
invariant_of-self-then-self-lits c w =
    let h = propagated c.self.inside.base c.propagate.new.self (c.self.invariant c.if-not-self.false)
    c.propagate.ensures.clauses c.propagate.ensures.grown in
    let first = c.first_unsettled-self-inside.ensures in
    settled-holding c.propagate.new.self _ _ _ h first.within first.done h.forced' h.decided'

pub returns-then-self-lits-clause-unit : goal.returns-then-self-lits-clause-unit
returns-then-self-lits-clause-unit c =
    let s = c.self.inside in
    let new = c.propagate.new.self in
    let h = propagated s.base new (c.self.invariant c.if-not-self.false) c.propagate.ensures.clauses
    c.propagate.ensures.grown in
    let first = c.first_unsettled-self-inside.ensures in
    let all = settled-holding new c.first_unsettled-self-inside.result
    _ _ h first.within first.done h.forced' h.decided' in
    none-seen s.formula.now s.base.clauses new.clauses c.args.self.now c.propagate.ensures.clauses c.self.view_is
    (all-units s.formula.now new c.first_unsettled-self-inside.result all.formula all.grounded
    (c.if-self-lits.true ∙ lits-long c.trail.result.now c.lits.result.now c.lits.ensures.lits
    ∙ ap (λ (t : TrailState). length t.assigned) c.trail.ensures.trail)
    (subst (λ p. Ends p new) c.in-Quiet.is c.in_ok-propagate.ensures.ends))

pub derive-requires-clause-low : goal.derive-requires-clause-low
derive-requires-clause-low c =
    let h = propagated c.self.inside.base c.propagate.new.self (c.self.invariant c.if-not-self.false)
    c.propagate.ensures.clauses c.propagate.ensures.grown in
    h.grounded.low

pub derive-requires-clause-settled : goal.derive-requires-clause-settled
derive-requires-clause-settled c =
    let h = propagated c.self.inside.base c.propagate.new.self (c.self.invariant c.if-not-self.false)
    c.propagate.ensures.clauses c.propagate.ensures.grown in
    h.grounded.units

pub invariant_of-self-2 : goal.invariant_of-self-2
invariant_of-self-2 c w =
    let h = propagated c.self.inside.base c.propagate.new.self (c.self.invariant c.if-not-self.false)
    c.propagate.ensures.clauses c.propagate.ensures.grown in
    let first = c.first_unsettled-self-inside.ensures in
    settled-holding c.propagate.new.self _ _ _ h first.within first.done
    (c.in_ok-unit.ensures.sized.forced ∙ h.grounded.vars) (c.in_ok-unit.ensures.sized.decided ∙ h.grounded.vars)

pub returns-clause-unit : goal.returns-clause-unit
returns-clause-unit c =
    let s = c.self.inside in
    unit-seen s.formula.now s.base c.propagate.new.self c.args.self.now s.settled s.notes.reached.forced.vars
    s.notes.reached.decided.vars c.in_ok-unit.unit (c.self.invariant c.if-not-self.false) c.propagate.ensures.clauses
    c.propagate.ensures.grown.vars c.self.view_is c.in_ok-unit.ensures.unit
