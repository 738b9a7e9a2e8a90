use Rattle.std.proofs.Common.{◌≡◌}
use Rattle.gr_strengthen.proofs.tests.calls.formula_of.Given as goal

abbrev pub invariant-loop-clause : goal.invariant-loop-clause
invariant-loop-clause l = l.formula.vars ≡ 6
