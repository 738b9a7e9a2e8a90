use Rattle.std.proofs.Common.{◌≡◌}
use Rattle.gr_timing.proofs.watches.fill.Given as goal

abbrev pub invariant-loop-place : goal.invariant-loop-place
invariant-loop-place l = l.watches.vars ≡ 20_000
