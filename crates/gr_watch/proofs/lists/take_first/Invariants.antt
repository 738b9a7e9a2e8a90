-- the first watch of the place is not behind
use Rattle.std.proofs.Common.{◌≡◌, ◌+◌, ◌-◌, true, length, drop}
use Rattle.std.specs.List.{list_any}
use Rattle.gr_watch.specs.WatchLists.{is_at, first_at}
use Rattle.gr_watch.proofs.lists.take_first.Given as goal

abbrev pub invariant-loop-index : goal.invariant-loop-index
invariant-loop-index l = record {
  ahead : list_any (is_at l.place) (drop l.index l.list.items) ≡ true;
  first : l.index + first_at l.place (drop l.index l.list.items) ≡ first_at l.place l.list.items;
}

-- what is ahead
abbrev pub decreases-loop-index : goal.decreases-loop-index
decreases-loop-index l = length l.list.items - l.index
