use Rattle.std.proofs.Common.{◌≡◌, ◌+◌, All, vec_len}
use Rattle.gr_seat.specs.Handles.{HasSameExchange}
use Rattle.gr_run.specs.Beside.{IsUnused}
use Rattle.gr_run.proofs.seating.seat_all.Given as goal

-- so many reducers have a seat, at the same exchange as the searching thread's
abbrev pub invariant-loop : goal.invariant-loop
invariant-loop l = record {
  here : HasSameExchange l.initial.solver l.solver;
  seen : (l.solver.actor ≡ l.initial.solver.actor) × (l.solver.seen ≡ l.initial.solver.seen);
  splits : l.solver.splits ≡ l.counter;
  count : vec_len l.seats ≡ l.counter;
  out : l.solver.out ≡ l.initial.solver.out + l.counter;
  unused : All (IsUnused l.initial.solver.lock l.initial.solver.formula) l.seats.items;
  beside : All (HasSameExchange l.initial.solver) l.seats.items;
}
