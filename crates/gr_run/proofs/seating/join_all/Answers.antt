use Rattle.std.proofs.Common.{arith, length, ap}
use Rattle.std.proofs.lemmas.List.Elements.{All-rest}
use Rattle.gr_seat.specs.Handles.{HasSameExchange}
use Rattle.gr_run.proofs.Beside.{beside-moved}
use Rattle.gr_run.proofs.SeatRuns.{prefixes}
use Rattle.gr_run.proofs.seating.join_all.Goals as goal

pub loop-seat-preserved : goal.loop-seat-preserved
loop-seat-preserved c = record {
  here = beside-moved _ _ _ c.loop-seat.invariant.here c.join_reducer.ensures.same.0;
  seen = prefixes _ _ _ c.loop-seat.invariant.seen c.join_reducer.ensures.seen.0;
  out =
      let was = c.loop-seat.invariant.out in
      let counts = c.join_reducer.ensures.counts.1 in
      let rest = ap length c.in-Some.ensures.steps.0 in
      omega arith;
  rest = All-rest (HasSameExchange c.args.solver.now) c.in-Some.seat _ _ c.in-Some.ensures.steps.0
      c.loop-seat.invariant.rest;
}
