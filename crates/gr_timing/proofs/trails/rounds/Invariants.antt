use Rattle.std.proofs.Common.{◌≡◌}
use Rattle.gr_timing.proofs.trails.rounds.Given as goal

abbrev pub invariant-loop-round : goal.invariant-loop-round
invariant-loop-round l = l.trail.vars ≡ 100_000
