use Rattle.std.proofs.Common.{length, ◌-◌, ◌≡◌, ◌≤◌, ◌++◌, map, take, drop}
use Rattle.gr_prop.specs.BaseChanges.{moved_assigned}
use Rattle.gr_prop.proofs.compacting.move_reasons.Given as goal

abbrev pub invariant-loop-index : goal.invariant-loop-index
invariant-loop-index l = record {
  within : l.index ≤ length l.fn.trail.assigned;
  moved : l.trail ≡ record l.fn.trail {
    assigned = map (moved_assigned l.moves) (take l.index l.fn.trail.assigned) ++ drop l.index l.fn.trail.assigned;
  };
}

abbrev pub decreases-loop-index : goal.decreases-loop-index
decreases-loop-index l = length l.fn.trail.assigned - l.index
