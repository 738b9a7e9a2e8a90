use Rattle.std.proofs.Common.{◌≤◌}
use Rattle.gr_run.proofs.searching_tests.learns.Given as goal

-- at most each entry is one
abbrev pub invariant-loop-k : goal.invariant-loop-k
invariant-loop-k l = l.count ≤ l.k
