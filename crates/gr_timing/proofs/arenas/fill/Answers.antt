use Rattle.gr_timing.proofs.arenas.fill.Goals as goal
use Rattle.gr_timing.proofs.Places.{pushed}

-- src/arenas.rt: the places stay, and the new one is there
pub loop-id-preserved : goal.loop-id-preserved
loop-id-preserved c =
    pushed c.loop-id.arena.clauses c.add.new.self.clauses c.in_ok-place.place _ c.loop-id.places.items
    c.push-in-loop-id.new.self.items c.in_ok-place.ensures.clauses c.loop-id.invariant c.in_ok-push-2.ensures.items
