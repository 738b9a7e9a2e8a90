use Rattle.std.proofs.Common.{◌-◌, ◌<◌, ◌∷◌, List, length, take, drop, Some, refl, sym, subst}
use Rattle.gr_logic.specs.Literals.{Literal}
use Rattle.gr_logic.specs.Formulas.{VarsUpTo}
use Rattle.gr_prop.specs.BaseChanges.{Ends}
use Rattle.gr_strengthen.specs.Walking.{IsWalking, HasWalked, IsStep}
use Rattle.gr_strengthen.proofs.Rests.{split-first, no-more}
use Rattle.gr_strengthen.proofs.WalkTrails.{all-low}
use Rattle.gr_strengthen.proofs.WalkSteps.{stays-low, walk-begins, walk-fails, walk-goes-on, walk-stops, walk-fresh, walk-known, walk-ends, ground-grown}
use Rattle.gr_strengthen.proofs.walking.walk.Goals as goal

pub returns-in-Conflict-clause-ground : goal.returns-in-Conflict-clause-ground
returns-in-Conflict-clause-ground c =
    ground-grown c.args.base.now c.propagate.new.self c.propagate.new.self c.propagate.ensures.grown c.requires.ground
    refl (all-low c.propagate.new.self.trail.assigned
    (stays-low c.args.base.now.trail c.propagate.new.self.trail c.requires.low c.requires.ground
    c.propagate.ensures.grown))

pub returns-in-Conflict-clause-walked : goal.returns-in-Conflict-clause-walked
returns-in-Conflict-clause-walked c =
    subst (λ ls. HasWalked c.propagate.new.self ls c.args.clause.now (Some c.in-Conflict.place)) (sym c.clear.ensures)
    (walk-fails c.args.base.now c.propagate.new.self c.args.clause.now c.in-Conflict.place c.requires.low
    c.propagate.ensures.decisions (subst (λ p. Ends p c.propagate.new.self)
    c.in-Conflict.is c.in_ok-place.ensures.ends))

pub lits-init : goal.lits-init
lits-init c =
    subst (λ ls. IsWalking c.propagate.new.self c.propagate.new.self ls c.args.clause.now c.args.clause.now)
    (sym c.clear.ensures)
    (walk-begins c.args.base.now c.propagate.new.self c.args.clause.now c.requires.low c.propagate.ensures.decisions
    c.propagate.ensures.grown c.requires.ground
    (subst (λ p. Ends p c.propagate.new.self) c.in-Quiet.is c.in_ok-place.ensures.ends))

pub step-requires-clause-known : goal.step-requires-clause-known
step-requires-clause-known c =
    let rest = c.lits.rest.now in
    let tail : List Literal = take (length rest - 1) (drop 1 rest) in
    let w : IsWalking c.propagate.new.self c.lits.base c.lits.kept (c.lit-item.result ∷ tail) c.args.clause.now =
    subst (λ ls. IsWalking c.propagate.new.self c.lits.base c.lits.kept ls c.args.clause.now)
    (split-first rest c.lit-item.result c.in-len1-up.len_at_least c.lit-item.is) c.lits.invariant in
    subst (λ n. c.lit-item.result.index < n) (sym (c.lits.invariant.vars))
    (walk-known c.propagate.new.self c.lits.base c.lits.base c.lits.kept c.lits.kept tail c.args.clause.now
    c.lit-item.result w c.propagate.new.self.trail.vars
    (subst (λ n. VarsUpTo n c.args.clause.now) (sym c.propagate.ensures.grown.vars) c.requires.known))

pub step-requires-clause-new : goal.step-requires-clause-new
step-requires-clause-new c =
    let rest = c.lits.rest.now in
    let tail : List Literal = take (length rest - 1) (drop 1 rest) in
    let w : IsWalking c.propagate.new.self c.lits.base c.lits.kept (c.lit-item.result ∷ tail) c.args.clause.now =
    subst (λ ls. IsWalking c.propagate.new.self c.lits.base c.lits.kept ls c.args.clause.now)
    (split-first rest c.lit-item.result c.in-len1-up.len_at_least c.lit-item.is) c.lits.invariant in
    walk-fresh c.propagate.new.self c.lits.base c.lits.base c.lits.kept c.lits.kept tail c.args.clause.now
    c.lit-item.result w c.requires.normal

pub returns-in-Some-clause-walked : goal.returns-in-Some-clause-walked
returns-in-Some-clause-walked c =
    let rest = c.lits.rest.now in
    let tail : List Literal = take (length rest - 1) (drop 1 rest) in
    let w : IsWalking c.propagate.new.self c.lits.base c.lits.kept (c.lit-item.result ∷ tail) c.args.clause.now =
    subst (λ ls. IsWalking c.propagate.new.self c.lits.base c.lits.kept ls c.args.clause.now)
    (split-first rest c.lit-item.result c.in-len1-up.len_at_least c.lit-item.is) c.lits.invariant in
    walk-stops c.propagate.new.self c.lits.base c.step.new.base c.lits.kept c.step.new.kept tail c.args.clause.now
    c.lit-item.result w c.in-Some.place
    (subst (λ o. IsStep c.lits.base c.step.new.base c.lits.kept c.step.new.kept c.lit-item.result o) c.in-Some.is
    c.in_ok-place-2.ensures.stepped) c.in_ok-place-2.ensures.clauses

pub lits-preserved : goal.lits-preserved
lits-preserved c =
    let rest = c.lits.rest.now in
    let tail : List Literal = take (length rest - 1) (drop 1 rest) in
    let w : IsWalking c.propagate.new.self c.lits.base c.lits.kept (c.lit-item.result ∷ tail) c.args.clause.now =
    subst (λ ls. IsWalking c.propagate.new.self c.lits.base c.lits.kept ls c.args.clause.now)
    (split-first rest c.lit-item.result c.in-len1-up.len_at_least c.lit-item.is) c.lits.invariant in
    walk-goes-on c.propagate.new.self c.lits.base c.step.new.base c.lits.kept c.step.new.kept tail c.args.clause.now
    c.lit-item.result w
    (subst (λ o. IsStep c.lits.base c.step.new.base c.lits.kept c.step.new.kept c.lit-item.result o)
    c.in-None.is c.in_ok-place-2.ensures.stepped)
    c.in_ok-place-2.ensures.clauses c.in_ok-place-2.ensures.vars c.in_ok-place-2.ensures.ground

pub returns-clause-walked : goal.returns-clause-walked
returns-clause-walked c =
    walk-ends c.propagate.new.self c.lits.base c.lits.kept c.args.clause.now
    (subst (λ ls. IsWalking c.propagate.new.self c.lits.base c.lits.kept ls c.args.clause.now)
    (no-more c.lits.rest.now c.in_default.len_below) c.lits.invariant)
