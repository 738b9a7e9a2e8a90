use Rattle.std.proofs.Common.{◌≡◌}
use Rattle.gr_timing.proofs.watches.walks.Given as goal

abbrev pub invariant-loop-round : goal.invariant-loop-round
invariant-loop-round l = l.watches.vars ≡ 20_000
