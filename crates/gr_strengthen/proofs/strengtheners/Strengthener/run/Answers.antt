use Rattle.std.proofs.Common.{sym, ap, ◌∙◌, subst}
use Rattle.gr_logic.specs.Formulas.{VarsUpTo}
use Rattle.gr_prop.specs.Bases.{BaseState}
use Rattle.gr_prop.specs.BaseChanges.{IsGrown}
use Rattle.gr_strengthen.specs.Outcomes.{IsStrengthened}
use Rattle.gr_strengthen.specs.Strengtheners.{StrengthenerState}
use Rattle.gr_strengthen.proofs.Methods.{grown-holding, outcome-seen}
use Rattle.gr_strengthen.proofs.strengtheners.Strengthener.run.Goals as goal

pub walk-requires-clause-ground : goal.walk-requires-clause-ground
walk-requires-clause-ground c = (c.self.invariant c.if-not-self.false).grounded.ground

pub walk-requires-clause-low : goal.walk-requires-clause-low
walk-requires-clause-low c = (c.self.invariant c.if-not-self.false).grounded.low

pub walk-requires-clause-known : goal.walk-requires-clause-known
walk-requires-clause-known c =
    let h = c.self.invariant c.if-not-self.false in
    subst (λ n. VarsUpTo n c.lits-lits.result.now)
    (sym (h.grounded.vars ∙ ap (λ (v : StrengthenerState). v.formula.vars) c.self.view_is))
    (subst (VarsUpTo c.args.self.now.formula.vars) (sym c.lits-lits.ensures) c.requires.known)

pub conclude-requires-clause-sized : goal.conclude-requires-clause-sized
conclude-requires-clause-sized c =
    let h = c.self.invariant c.if-not-self.false in
    let vars = sym (h.grounded.vars) ∙ sym c.in_ok-stop.ensures.ground.vars in
    record { forced = h.forced' ∙ vars; decided = h.decided' ∙ vars }

pub conclude-requires-clause-known : goal.conclude-requires-clause-known
conclude-requires-clause-known c =
    let h = c.self.invariant c.if-not-self.false in
    subst (λ n. VarsUpTo n c.lits-lits.result.now)
    (sym (c.in_ok-stop.ensures.ground.vars ∙ h.grounded.vars
    ∙ ap (λ (v : StrengthenerState). v.formula.vars) c.self.view_is))
    (subst (VarsUpTo c.args.self.now.formula.vars) (sym c.lits-lits.ensures) c.requires.known)

pub invariant_of-self-2 : goal.invariant_of-self-2
invariant_of-self-2 c w =
    let s = c.self.inside in
    let h = c.self.invariant c.if-not-self.false in
    let back = c.backtrack.ensures in
    let vars = c.in_ok-stop.ensures.ground.vars ∙ h.grounded.vars in
    grown-holding s.formula.now s.base.clauses c.backtrack.new.self.clauses s.base.trail c.backtrack.new.self.trail
    s.settled s.notes.reached.forced.vars s.notes.reached.decided.vars c.conclude.new.notes.reached.forced.vars
    c.conclude.new.notes.reached.decided.vars h
    (ap (λ (b : BaseState). b.clauses) back ∙ c.in_ok-stop.ensures.clauses)
    (subst (IsGrown s.base.trail) (sym (ap (λ (b : BaseState). b.trail) back)) c.in_ok-stop.ensures.ground)
    (c.in_ok-outcome.ensures.sized.forced ∙ vars) (c.in_ok-outcome.ensures.sized.decided ∙ vars)

pub returns-clause-outcome : goal.returns-clause-outcome
returns-clause-outcome c =
    let s = c.self.inside in
    let h = c.self.invariant c.if-not-self.false in
    let clause = c.args.taken.now.clause in
    outcome-seen s.formula.now s.base c.walk.new.base c.args.self.now s.settled s.notes.reached.forced.vars
    s.notes.reached.decided.vars c.args.taken.now.id clause c.in_ok-outcome.outcome h c.in_ok-stop.ensures.clauses
    c.in_ok-stop.ensures.ground.vars c.self.view_is c.requires.above c.requires.unused
    (λ k is none. subst (λ ls. IsStrengthened k c.walk.new.base.trail.vars
    c.args.taken.now.id ls c.in_ok-outcome.outcome)
    c.lits-lits.ensures (c.in_ok-outcome.ensures.outcome k is none))
