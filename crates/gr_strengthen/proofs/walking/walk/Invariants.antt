use Rattle.std.proofs.Common.{length}
use Rattle.gr_strengthen.specs.Walking.{IsWalking}
use Rattle.gr_strengthen.proofs.walking.walk.Given as goal

-- what was walked through, and what is left
abbrev pub invariant-lits : goal.invariant-lits
invariant-lits l = IsWalking l.initial.base l.base l.kept l.rest l.clause

abbrev pub decreases-lits : goal.decreases-lits
decreases-lits l = length l.rest
