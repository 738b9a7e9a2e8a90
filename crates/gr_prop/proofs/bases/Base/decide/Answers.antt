use Rattle.std.proofs.Common.{◌≡◌, ◌<◌, None, false, ap, sym, ◌∙◌, subst, refl}
use Rattle.gr_trail.specs.Trails.{TrailState, value_in}
use Rattle.gr_prop.specs.Watching.{IsReady, ArePaired}
use Rattle.gr_prop.proofs.Keeping.{kept-open}
use Rattle.gr_prop.proofs.Deciding.{ready-decided}
use Rattle.gr_prop.proofs.bases.Base.decide.Goals as goal

pub invariant_of-self : goal.invariant_of-self
invariant_of-self c =
    let s = c.self.inside in
    let v = c.self.view_is in
    let done = c.self.invariant.0.ended.done (ap (λ b. b.quiet) v ∙ c.requires.quiet) in
    let low : c.args.lit.index < s.trail.vars = subst (λ n. c.args.lit.index < n) (sym (ap (λ b. b.trail.vars) v))
    c.requires.known in
    let free : value_in s.trail.assigned c.args.lit ≡ None = ap (λ b. value_in b.trail.assigned c.args.lit) v ∙
    c.requires.unassigned in (
      kept-open s.arena.clauses c.decide.new.self s.watches s.places s.head s.broken.items false None
          (subst (λ t. IsReady s.arena.clauses t s.watches s.head s.broken.items) (sym c.decide.ensures)
          (ready-decided s.arena.clauses s.trail s.watches s.head s.broken.items c.args.lit c.self.invariant.0.ready
          done.0 done.1 low free))
          c.self.invariant.0.indexed refl refl,
      subst (λ (t : TrailState). ArePaired s.arena.clauses t.vars s.pairs) (sym c.decide.ensures) c.self.invariant.1,
    )
