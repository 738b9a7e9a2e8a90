use Rattle.std.proofs.Common.{◌≡◌}
use Rattle.gr_strengthen.proofs.tests.comparisons.run_right.Given as goal

abbrev pub invariant-loop-clause : goal.invariant-loop-clause
invariant-loop-clause l = l.strengthener ≡ l.initial.strengthener
