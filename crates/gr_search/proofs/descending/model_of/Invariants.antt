-- the literals so far are true
use Rattle.std.proofs.Common.{◌≡◌, length}
use Rattle.gr_search.proofs.TrueLiterals.{AreTrueUpTo}
use Rattle.gr_search.proofs.descending.model_of.Given as goal

abbrev pub invariant-loop-lit : goal.invariant-loop-lit
invariant-loop-lit l = record {
  sized : length l.model ≡ l.vars;
  holds : AreTrueUpTo l.model l.trail.assigned l.lit-index;
}
