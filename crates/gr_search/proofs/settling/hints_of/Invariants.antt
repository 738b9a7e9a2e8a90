-- the hints so far are ids of unit clauses, of the negations of the literals so far
use Rattle.std.proofs.Common.{take}
use Rattle.gr_search.proofs.UnitHints.{AreHints}
use Rattle.gr_search.proofs.settling.hints_of.Given as goal

abbrev pub invariant-loop-other : goal.invariant-loop-other
invariant-loop-other l = AreHints l.base.clauses l.lit (take l.other-index l.lits) l.hints
