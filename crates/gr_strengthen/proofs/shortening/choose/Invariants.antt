use Rattle.std.proofs.Common.{◌≡◌, ◌++◌, length}
use Rattle.gr_logic.specs.Formulas.{VarsUpTo}
use Rattle.gr_strengthen.specs.Reaching.{chosen_from}
use Rattle.gr_strengthen.proofs.shortening.choose.Given as goal

-- the literals in `rest` are still to be chosen from
abbrev pub invariant-lits : goal.invariant-lits
invariant-lits l = record {
  known : VarsUpTo l.trail.vars l.rest;
  left : l.chosen ++ chosen_from l.trail.assigned l.decided.marked l.rest
      ≡ chosen_from l.trail.assigned l.decided.marked l.fn.kept;
}

abbrev pub decreases-lits : goal.decreases-lits
decreases-lits l = length l.rest
