-- the first clauses are there, and the last id is their number
use Rattle.std.proofs.Common.{◌≡◌}
use Rattle.gr_search.proofs.FormulaClauses.{HoldsFirst}
use Rattle.gr_search.proofs.solving.base_of.Given as goal

abbrev pub invariant-loop-clause : goal.invariant-loop-clause
invariant-loop-clause l = record {
  counted : l.id ≡ l.clause-index;
  holds : HoldsFirst l.formula l.base l.clause-index;
}
