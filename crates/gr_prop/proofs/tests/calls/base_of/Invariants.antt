use Rattle.std.proofs.Common.{◌≡◌}
use Rattle.gr_prop.proofs.tests.calls.base_of.Given as goal

abbrev pub invariant-loop-clause : goal.invariant-loop-clause
invariant-loop-clause l = l.base.trail.vars ≡ 300
