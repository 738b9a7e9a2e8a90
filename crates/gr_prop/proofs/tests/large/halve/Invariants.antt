use Rattle.std.proofs.Common.{◌≡◌}
use Rattle.gr_prop.proofs.tests.large.halve.Given as goal

abbrev pub invariant-loop-id : goal.invariant-loop-id
invariant-loop-id l = l.base.trail.vars ≡ 300
