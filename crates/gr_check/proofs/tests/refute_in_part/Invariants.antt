use Rattle.gr_check.specs.Reached.{IsReached}
use Rattle.gr_check.proofs.tests.refute_in_part.Given as goal

-- the lines so far that were not refused lead to the checker's state
abbrev pub invariant-loop-line : goal.invariant-loop-line
invariant-loop-line l = record { reached : IsReached l.formula l.checker }
