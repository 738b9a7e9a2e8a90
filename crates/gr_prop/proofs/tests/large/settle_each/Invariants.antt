use Rattle.std.proofs.Common.{◌≡◌}
use Rattle.gr_prop.proofs.tests.large.settle_each.Given as goal

abbrev pub invariant-loop-index : goal.invariant-loop-index
invariant-loop-index l = l.base.trail.vars ≡ 300
