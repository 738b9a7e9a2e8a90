-- one more literal is true, at the same level
use Rattle.std.proofs.Common.{[], ◌∷◌, ◌++◌, Some, ap, ◌∙◌}
use Rattle.gr_trail.specs.Trails.{TrailState}
use Rattle.gr_trail.proofs.Pushes.{stays, lit_fits, pushed_stored, pushed_seen}
use Rattle.gr_trail.proofs.trails.Trail.assign.Goals as goal

pub write-requires-clause-lit : goal.write-requires-clause-lit
write-requires-clause-lit c =
    lit_fits c.self.invariant c.self.view_is c.args.lit c.requires.within c.requires.unassigned

pub invariant_of-self : goal.invariant_of-self
invariant_of-self c =
    pushed_stored c.self.invariant c.self.view_is c.args.lit c.requires.within c.requires.unassigned
    (stays c.self.inside.starts.items c.self.inside.depth c.self.inside.len c.args.reason)
    c.write.ensures.values c.write.ensures.entries c.write.ensures.lits

pub returns : goal.returns
returns c =
    pushed_seen c.self.invariant c.self.view_is c.args.lit c.requires.within c.requires.unassigned
    (stays c.self.inside.starts.items c.self.inside.depth c.self.inside.len c.args.reason)
    c.write.ensures.values c.write.ensures.entries c.write.ensures.lits
    ∙ ap (λ (t : TrailState). record t {
      assigned = t.assigned
          ++ record { lit = c.args.lit; level = t.depth; reason = Some c.args.reason } ∷ [];
    })
    c.self.view_is
