use Rattle.std.proofs.Common.{length, ◌-◌, ◌≡◌, ◌≤◌, ◌++◌, map, take, drop}
use Rattle.gr_prop.specs.BaseChanges.{moved_place}
use Rattle.gr_prop.proofs.compacting.move_places.Given as goal

abbrev pub invariant-loop-index : goal.invariant-loop-index
invariant-loop-index l = record {
  within : l.index ≤ length l.fn.places.items;
  moved : l.places.items ≡ map (moved_place l.moves) (take l.index l.fn.places.items) ++ drop l.index l.fn.places.items;
}

abbrev pub decreases-loop-index : goal.decreases-loop-index
decreases-loop-index l = length l.fn.places.items - l.index
