-- the literals before the position are settled
use Rattle.std.proofs.Common.{◌≤◌, ◌-◌, length}
use Rattle.gr_search.specs.Settling.{AreSettled}
use Rattle.gr_search.proofs.settling.first_unsettled.Given as goal

abbrev pub invariant-loop-position : goal.invariant-loop-position
invariant-loop-position l = record {
  further : l.fn.from ≤ l.position;
  settled : AreSettled l.base.clauses l.base.trail.assigned l.position;
}

abbrev pub decreases-loop-position : goal.decreases-loop-position
decreases-loop-position l = length l.lits - l.position
