use Rattle.std.proofs.Common.{◌≡◌, All, vec_len}
use Rattle.gr_turn.specs.Seats.{IsAway}
use Rattle.gr_timing_lock.specs.Crowds.{IsFresh}
use Rattle.gr_timing_lock.proofs.crowds.seat_all.Given as goal

-- so many guests are seated, and out
abbrev pub invariant-loop-before : goal.invariant-loop-before
invariant-loop-before l = record {
  away : IsAway l.fn.turn l.first × (l.first.number ≡ 0);
  splits : l.first.splits ≡ l.before;
  out : l.first.out ≡ l.before;
  count : vec_len l.guests ≡ l.before;
  fresh : All (IsFresh l.fn.turn) l.guests.items;
}
