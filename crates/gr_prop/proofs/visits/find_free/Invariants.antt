use Rattle.std.proofs.Common.{length, ◌-◌, ◌≡◌, ◌≤◌, ◌<◌, ℕ, true, get_or}
use Rattle.gr_logic.specs.Literals.{Literal, negation}
use Rattle.gr_trail.specs.Trails.{true_in}
use Rattle.gr_prop.proofs.visits.find_free.Given as goal

abbrev pub invariant-loop-at : goal.invariant-loop-at
invariant-loop-at l = record {
  low : l.from ≤ l.at;
  high : l.at ≤ length l.lits;
  falses : (k : ℕ) (d : Literal) → l.from ≤ k → k < l.at → true_in l.trail.assigned (negation (get_or l.lits k d)) ≡
      true;
}

abbrev pub decreases-loop-at : goal.decreases-loop-at
decreases-loop-at l = length l.lits - l.at
