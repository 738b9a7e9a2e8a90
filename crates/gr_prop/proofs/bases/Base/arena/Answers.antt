use Rattle.std.proofs.Common.{◌<◌, subst, ap, All}
use Rattle.std.specs.Option.{unwrap_or}
use Rattle.gr_logic.specs.NormalForms.{IsNormal}
use Rattle.gr_logic.specs.Literals.{Literal}
use Rattle.gr_arena.specs.Arenas.{no_clause}
use Rattle.gr_prop.specs.Bases.{IsBase}
use Rattle.gr_prop.proofs.Facts.{base-is, distinct-normal}
use Rattle.gr_prop.proofs.bases.Base.arena.Goals as goal

pub returns-clause-normal : goal.returns-clause-normal
returns-clause-normal c = λ p s at.
    subst (λ o. IsNormal (unwrap_or o no_clause).lits) at (distinct-normal _ (c.self.invariant.0.ready.distinct p))

pub returns-clause-known : goal.returns-clause-known
returns-clause-known c = λ p s at.
    subst (λ n. All (λ (l : Literal). l.index < n) s.lits) (ap (λ b. b.trail.vars) c.self.view_is)
    (subst (λ o. All (λ (l : Literal). l.index < c.self.inside.trail.vars) (unwrap_or o no_clause).lits) at
    (c.self.invariant.0.ready.known p))

pub returns-clause-base : goal.returns-clause-base
returns-clause-base c =
    let s = c.self.inside in
    subst IsBase c.self.view_is (base-is s.arena.clauses s.trail s.watches s.places s.head s.broken.items s.quiet
    s.conflict c.self.invariant.0)
