use Rattle.std.proofs.Common.{◌≡◌, [], All}
use Rattle.gr_diary.specs.Examples.{chain}
use Rattle.gr_seat.specs.Handles.{Handle}
use Rattle.gr_seat.specs.Turns.{IsSameSeat}
use Rattle.gr_seat.proofs.crowd_tests.seat_all.Given as goal

-- each seat so far is at the exchange, and none has seen anything
abbrev pub invariant-loop : goal.invariant-loop
invariant-loop l = record {
  same : IsSameSeat l.initial.solver l.solver;
  seen : l.solver.seen ≡ [];
  splits : l.solver.splits ≡ l.counter;
  seats : All (λ (h : Handle). (h.lock ≡ l.fn.bench) × (h.formula ≡ chain) × (h.seen ≡ [])) l.seats.items;
}
