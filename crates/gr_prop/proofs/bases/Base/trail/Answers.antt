use Rattle.std.proofs.Common.{◌≤◌, subst, arith}
use Rattle.gr_trail.specs.Trails.{IsTrail}
use Rattle.gr_prop.specs.Bases.{BaseState, IsBase}
use Rattle.gr_prop.proofs.Facts.{base-is}
use Rattle.gr_prop.proofs.bases.Base.trail.Goals as goal

pub returns-clause-base : goal.returns-clause-base
returns-clause-base c =
    let s = c.self.inside in
    subst IsBase c.self.view_is (base-is s.arena.clauses s.trail s.watches s.places s.head s.broken.items s.quiet
    s.conflict c.self.invariant.0)

pub returns-clause-legal : goal.returns-clause-legal
returns-clause-legal c = subst (λ (b : BaseState). IsTrail b.trail) c.self.view_is c.depth-depth.ensures.trail

pub returns-clause-small : goal.returns-clause-small
returns-clause-small c =
    subst (λ (b : BaseState). b.trail.vars ≤ 1_000_000) c.self.view_is
    (omega (arith, c.self.invariant.0.ready.vars, c.vars-vars.ensures.is, c.vars-vars.ensures.small))
