use Rattle.std.proofs.Common.{◌≡◌, All, length}
use Rattle.gr_turn.specs.Seats.{IsAway}
use Rattle.gr_timing_lock.specs.Crowds.{IsAt}
use Rattle.gr_timing_lock.proofs.crowds.join_all.Given as goal

-- the guests that are left are still out
abbrev pub invariant-loop-guest : goal.invariant-loop-guest
invariant-loop-guest l = record {
  away : IsAway l.fn.turn l.first × (l.first.number ≡ 0);
  out : l.first.out ≡ length l.guest-iterator.rest.items;
  there : All (IsAt l.fn.turn) l.guest-iterator.rest.items;
}
