-- the places of the variables so far
use Rattle.gr_hints.proofs.Placing.{AreSpread}
use Rattle.gr_hints.proofs.ordering.place.Given as goal

abbrev pub invariant-loop-var : goal.invariant-loop-var
invariant-loop-var l = AreSpread l.trail.assigned l.vars l.positions.items l.var-index l.below l.from
