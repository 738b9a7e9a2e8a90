use Rattle.std.proofs.Common.{◌≤◌, ◌-◌, length, take}
use Rattle.std.specs.Prelude.{All}
use Rattle.gr_strengthen.specs.Holding.{HasUnitReason}
use Rattle.gr_strengthen.proofs.units.first_unsettled.Given as goal

-- the literals before the index are settled
abbrev pub invariant-loop-index : goal.invariant-loop-index
invariant-loop-index l = record {
  within : l.index ≤ length l.base.trail.assigned;
  done : All (HasUnitReason l.base.clauses) (take l.index l.base.trail.assigned);
}

abbrev pub decreases-loop-index : goal.decreases-loop-index
decreases-loop-index l = length l.base.trail.assigned - l.index
