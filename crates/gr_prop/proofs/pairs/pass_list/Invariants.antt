-- the list's front is met
use Rattle.std.proofs.Common.{◌≡◌, ◌≤◌, ◌-◌, true, All, take, length}
use Rattle.gr_trail.specs.Trails.{true_in}
use Rattle.gr_watch.specs.WatchLists.{list_of}
use Rattle.gr_prop.specs.BaseChanges.{IsGrown}
use Rattle.gr_prop.specs.Pairing.{IsPassing}
use Rattle.gr_prop.proofs.pairs.pass_list.Given as goal

abbrev pub invariant-loop-index : goal.invariant-loop-index
invariant-loop-index l = record {
  within : l.index ≤ length l.list;
  passing : IsPassing l.arena.clauses l.trail l.pairs l.fn.gone;
  grown : IsGrown l.fn.trail l.trail;
  met : All (λ w. true_in l.trail.assigned w.blocker ≡ true) (take l.index (list_of l.pairs l.fn.gone));
}

abbrev pub decreases-loop-index : goal.decreases-loop-index
decreases-loop-index l = length l.list - l.index
