use Rattle.std.proofs.Common.{◌≡◌, ◌+◌, ◌≤◌, length}
use Rattle.gr_turn.specs.Seats.{IsAway}
use Rattle.gr_turn.proofs.tests.note_all.Given as goal

-- each note so far is an own entry
abbrev pub invariant-loop : goal.invariant-loop
invariant-loop g l = record {
  away : IsAway l.fn.turn l.seat × (l.seat.number ≡ l.who);
  counts : (l.seat.splits ≡ l.fn.seat.splits) × (l.seat.out ≡ l.fn.seat.out);
  own : length l.seat.own ≡ length l.fn.seat.own + l.made;
  few : l.made ≤ l.counter;
}
