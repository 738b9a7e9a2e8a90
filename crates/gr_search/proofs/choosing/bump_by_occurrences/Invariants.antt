-- one variable after the other, the last one first
use Rattle.std.proofs.Common.{◌≤◌}
use Rattle.gr_search.proofs.choosing.bump_by_occurrences.Given as goal

abbrev pub invariant-loop-var : goal.invariant-loop-var
invariant-loop-var l = l.var ≤ l.formula.vars

abbrev pub decreases-loop-var : goal.decreases-loop-var
decreases-loop-var l = l.var
