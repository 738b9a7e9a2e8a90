use Rattle.std.proofs.Common.{length, ◌-◌, ◌≤◌}
use Rattle.gr_prop.specs.Walking.{IsWalking, IsProgress, AreVisited}
use Rattle.gr_prop.proofs.walks.walk.Given as goal

abbrev pub invariant-loop-index : goal.invariant-loop-index
invariant-loop-index l = record {
  walking : IsWalking l.arena.clauses l.trail l.watches l.list.items l.gone;
  progress : IsProgress l.fn.arena.clauses l.arena.clauses l.fn.trail l.trail;
  visited : AreVisited l.arena.clauses l.trail.assigned l.list.items l.index;
  within : l.index ≤ length l.list.items;
}

abbrev pub decreases-loop-index : goal.decreases-loop-index
decreases-loop-index l = length l.list.items - l.index
