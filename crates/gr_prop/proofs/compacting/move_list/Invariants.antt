use Rattle.std.proofs.Common.{length, ◌-◌, ◌≡◌, ◌≤◌, ◌++◌, map, take, drop}
use Rattle.gr_prop.specs.Compactions.{moved_watch}
use Rattle.gr_prop.proofs.compacting.move_list.Given as goal

abbrev pub invariant-loop-index : goal.invariant-loop-index
invariant-loop-index l = record {
  within : l.index ≤ length l.fn.list.items;
  moved : l.list.items ≡ map (moved_watch l.moves) (take l.index l.fn.list.items) ++ drop l.index l.fn.list.items;
}

abbrev pub decreases-loop-index : goal.decreases-loop-index
decreases-loop-index l = length l.fn.list.items - l.index
