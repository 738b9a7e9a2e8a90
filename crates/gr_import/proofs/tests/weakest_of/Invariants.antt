use Rattle.std.proofs.Common.{◌≡◌}
use Rattle.gr_import.proofs.tests.weakest_of.Given as goal

abbrev pub invariant-loop-lbd : goal.invariant-loop-lbd
invariant-loop-lbd l = l.base.trail.vars ≡ 6
