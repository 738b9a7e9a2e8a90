-- the order keeps its variables, and what was decided is some of them
use Rattle.std.proofs.Common.{◌≡◌}
use Rattle.gr_timing.proofs.Decided.{AreKnown}
use Rattle.gr_timing.proofs.orders.rounds.Given as goal

abbrev pub invariant-loop-round : goal.invariant-loop-round
invariant-loop-round l = AreKnown l.order.vars l.decided.items

abbrev pub invariant-loop-pick : goal.invariant-loop-pick
invariant-loop-pick l = AreKnown l.order.vars l.decided.items

abbrev pub invariant-loop-bump : goal.invariant-loop-bump
invariant-loop-bump l = l.order.vars ≡ 100_000

abbrev pub invariant-loop-back : goal.invariant-loop-back
invariant-loop-back l = AreKnown l.order.vars l.decided.items

abbrev pub invariant-loop-turn : goal.invariant-loop-turn
invariant-loop-turn l = l.order.vars ≡ 100_000
