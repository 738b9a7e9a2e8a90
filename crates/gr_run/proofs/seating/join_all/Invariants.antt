use Rattle.std.proofs.Common.{◌≡◌, ◌+◌, All, vec_len, length}
use mathlib.Core.List.{IsPrefix}
use Rattle.gr_seat.specs.Handles.{HasSameExchange}
use Rattle.gr_run.proofs.seating.join_all.Given as goal

-- the seats that are left are still out
abbrev pub invariant-loop-seat : goal.invariant-loop-seat
invariant-loop-seat l = record {
  here : HasSameExchange l.initial.solver l.solver;
  seen : IsPrefix l.initial.solver.seen l.solver.seen;
  out : l.solver.out + vec_len l.fn.seats ≡ l.initial.solver.out + length l.seat-iterator.rest.items;
  rest : All (HasSameExchange l.initial.solver) l.seat-iterator.rest.items;
}
