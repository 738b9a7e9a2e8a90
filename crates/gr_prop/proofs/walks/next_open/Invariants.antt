use Rattle.std.proofs.Common.{length, ◌-◌, ◌≡◌, ◌≤◌, ◌<◌, ℕ, true, get_or}
use Rattle.gr_trail.specs.Trails.{true_in}
use Rattle.gr_watch.specs.declared.lists.Watch.{Watch}
use Rattle.gr_prop.proofs.walks.next_open.Given as goal

abbrev pub invariant-loop-index : goal.invariant-loop-index
invariant-loop-index l = record {
  low : l.from ≤ l.index;
  high : l.index ≤ length l.list;
  blocked : (i : ℕ) (d : Watch) → l.from ≤ i → i < l.index → true_in l.trail.assigned (get_or l.list i d).blocker ≡
      true;
}

abbrev pub decreases-loop-index : goal.decreases-loop-index
decreases-loop-index l = length l.list - l.index
