use Rattle.std.proofs.Common.{◌≡◌}
use Rattle.gr_timing.proofs.trails.assign_all.Given as goal

abbrev pub invariant-loop-lit : goal.invariant-loop-lit
invariant-loop-lit l = (l.trail.vars ≡ 100_000) × (l.count ≡ l.lit-index)
