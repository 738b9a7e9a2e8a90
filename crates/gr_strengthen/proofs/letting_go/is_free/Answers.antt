use Rattle.std.proofs.Common.{◌≡◌, Bool, true, false, not, refl, sym, ◌∙◌, subst}
use Rattle.gr_logic.specs.Formulas.{VarsUpTo}
use Rattle.gr_trail.specs.Trails.{TrailState}
use Rattle.gr_prop.proofs.Lookups.{some-stored, known-stored}
use Rattle.gr_strengthen.proofs.Frees.{unneeded}
use Rattle.gr_strengthen.proofs.letting_go.is_free.Goals as goal

pub lits-lits-requires : goal.lits-lits-requires
lits-lits-requires c =
    some-stored c.arena.result.now.clauses c.args.base.now.clauses c.args.place.0 c.arena.ensures.clauses c.requires

pub forces_one-requires : goal.forces_one-requires
forces_one-requires c =
    subst (λ (t : TrailState). VarsUpTo t.vars c.lits-lits.result.now) (sym c.trail_of-trail.ensures.trail)
    (known-stored (VarsUpTo c.args.base.now.trail.vars) c.arena.result.now.clauses c.args.base.now.clauses
    c.args.place.0 c.lits-lits.result.now c.arena.ensures.clauses c.requires c.lits-lits.ensures c.arena.ensures.known)

false-of : (b : Bool) → not b ≡ true → b ≡ false
false-of true e = absurd (cc)
false-of false e = refl

pub returns : goal.returns
returns c e =
    unneeded c.args.base.now c.arena.result.now c.trail_of-trail.result.now c.args.place c.lits-lits.result.now
    c.arena.ensures.base c.trail_of-trail.ensures.is_trail c.trail_of-trail.ensures.trail c.arena.ensures.clauses
    c.arena.ensures.normal c.requires c.lits-lits.ensures c.if-lits-lt2.false
    (sym c.forces_one.ensures ∙ false-of c.forces_one.result e)
