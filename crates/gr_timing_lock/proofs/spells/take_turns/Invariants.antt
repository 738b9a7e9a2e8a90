use Rattle.std.proofs.Common.{◌≡◌, ◌≤◌, length}
use Rattle.gr_turn.specs.Seats.{IsAway}
use Rattle.gr_timing_lock.proofs.spells.take_turns.Given as goal

-- each turn so far made one own entry, or none
abbrev pub invariant-loop : goal.invariant-loop
invariant-loop g l = record {
  away : IsAway l.fn.turn l.seat;
  named : l.seat.number ≡ l.who;
  owns : length l.seat.own ≡ l.made;
  few : l.made ≤ l.counter;
}
