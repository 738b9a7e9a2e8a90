use Rattle.std.proofs.Common.{◌≡◌, take}
use Rattle.gr_timing.proofs.Taken.{HasTaken}
use Rattle.gr_timing.proofs.bases.base_of.Given as goal

abbrev pub invariant-loop-clause : goal.invariant-loop-clause
invariant-loop-clause l = (l.id ≡ l.clause-index)
    × HasTaken l.base l.formula.vars l.clause-index (take l.clause-index l.formula.clauses)
