use Rattle.std.proofs.Common.{rules, arith, ap, length}
use Rattle.std.proofs.lemmas.List.Elements.{All-rest}
use Rattle.gr_timing_lock.specs.Crowds.{IsAt}
use Rattle.gr_timing_lock.proofs.crowds.join_all.Goals as goal

-- one guest less is left, and out
pub loop-guest-preserved : goal.loop-guest-preserved
loop-guest-preserved c = record {
  away = search rules;
  out =
      let was = c.loop-guest.invariant.out in
      let fewer = c.join.ensures.seat.fewer in
      let rest = ap length c.in-Some.ensures.steps.0 in
      omega arith;
  there =
      All-rest (IsAt c.args.turn.now) c.in-Some.guest _ _ c.in-Some.ensures.steps.0
      c.loop-guest.invariant.there;
}
