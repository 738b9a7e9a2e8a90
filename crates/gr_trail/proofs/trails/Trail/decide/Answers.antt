-- one more literal is true, at a new level
use Rattle.std.proofs.Common.{◌+◌, [], ◌∷◌, ◌++◌, None, ap, ◌∙◌, arith}
use Rattle.gr_trail.specs.Trails.{TrailState}
use Rattle.gr_trail.proofs.Pushes.{opens, lit_fits, level_fits, small_depth, pushed_stored, pushed_seen}
use Rattle.gr_trail.proofs.trails.Trail.decide.Goals as goal

pub index_mut-requires : goal.index_mut-requires
index_mut-requires c =
    omega (
      arith,
      level_fits c.self.invariant c.self.view_is c.args.lit c.requires.within
          c.requires.unassigned,
    )

pub overflow_add-self : goal.overflow_add-self
overflow_add-self c =
    omega (
      arith,
      small_depth c.self.invariant c.self.view_is c.args.lit c.requires.within
          c.requires.unassigned,
    )

pub write-requires-clause-lit : goal.write-requires-clause-lit
write-requires-clause-lit c =
    lit_fits c.self.invariant c.self.view_is c.args.lit c.requires.within c.requires.unassigned

pub invariant_of-self : goal.invariant_of-self
invariant_of-self c =
    let fits = level_fits c.self.invariant c.self.view_is c.args.lit c.requires.within
    c.requires.unassigned in
    pushed_stored c.self.invariant c.self.view_is c.args.lit c.requires.within c.requires.unassigned
    (opens c.self.inside.starts.items c.self.inside.depth c.self.inside.len fits)
    c.write.ensures.values c.write.ensures.entries c.write.ensures.lits

pub returns : goal.returns
returns c =
    let fits = level_fits c.self.invariant c.self.view_is c.args.lit c.requires.within
    c.requires.unassigned in
    pushed_seen c.self.invariant c.self.view_is c.args.lit c.requires.within c.requires.unassigned
    (opens c.self.inside.starts.items c.self.inside.depth c.self.inside.len fits)
    c.write.ensures.values c.write.ensures.entries c.write.ensures.lits
    ∙ ap (λ (t : TrailState). record t {
      depth = t.depth + 1;
      assigned = t.assigned
          ++ record { lit = c.args.lit; level = t.depth + 1; reason = None } ∷ [];
    }) c.self.view_is
