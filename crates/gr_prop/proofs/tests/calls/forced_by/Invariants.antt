use Rattle.std.proofs.Common.{length, ◌-◌, ◌≤◌, ◌≢◌, All, take, Some}
use Rattle.gr_prop.proofs.tests.calls.forced_by.Given as goal

abbrev pub invariant-loop-index : goal.invariant-loop-index
invariant-loop-index l = record {
  within : l.index ≤ length l.trail.assigned;
  others : All (λ a. a.reason ≢ Some l.place) (take l.index l.trail.assigned);
}

abbrev pub decreases-loop-index : goal.decreases-loop-index
decreases-loop-index l = length l.trail.assigned - l.index
