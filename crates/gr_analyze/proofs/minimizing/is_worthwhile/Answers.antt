-- a false literal's variable has a value, and its level is known
use Rattle.std.proofs.Common.{◌≡◌, subst, arith, Some}
use Rattle.std.specs.Prelude.{option_map}
use Rattle.gr_trail.specs.Trails.{Assigned, assigned_to}
use Rattle.gr_analyze.proofs.FalseLiterals.{asked-some, level-within, depth-le}
use Rattle.gr_analyze.proofs.minimizing.is_worthwhile.Goals as goal

pub level-level-requires : goal.level-level-requires
level-level-requires c = asked-some c.args.trail.now c.args.lit _ c.requires.trail c.requires.gone
    c.var-var.ensures.number

pub position-requires : goal.position-requires
position-requires c = asked-some c.args.trail.now c.args.lit _ c.requires.trail c.requires.gone
    c.var-var.ensures.number

pub has_other_before-requires : goal.has_other_before-requires
has_other_before-requires c =
    let read = subst (λ v. option_map (λ (a : Assigned). a.level) (assigned_to c.args.trail.now.assigned v)
    ≡ Some c.level-level.result) c.var-var.ensures.number c.level-level.ensures in
    let le = level-within c.args.trail.now c.args.lit c.level-level.result c.requires.trail c.requires.gone read in
    let most = depth-le c.args.trail.now c.requires.trail in
    let s = c.requires.sized.levels in
    omega arith
