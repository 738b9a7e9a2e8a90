use Rattle.std.proofs.Common.{◌≡◌, true}
use Rattle.gr_analyze.proofs.tests.calls.conflict_of.Given as goal

abbrev pub invariant-loop-lit : goal.invariant-loop-lit
invariant-loop-lit l = (l.base.trail.vars ≡ 8) × (l.base.quiet ≡ true)
