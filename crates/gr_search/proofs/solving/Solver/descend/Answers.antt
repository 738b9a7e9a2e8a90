use Rattle.gr_search.proofs.Going.{steady-grown}
use Rattle.gr_search.proofs.solving.Solver.descend.Goals as goal

pub learn-requires-clause-steady : goal.learn-requires-clause-steady
learn-requires-clause-steady c =
    steady-grown c.loop-place.self c.propagate.new.self c.propagate.ensures.clauses c.propagate.ensures.grown
    c.loop-place.invariant.steady

pub decide-requires-clause-steady : goal.decide-requires-clause-steady
decide-requires-clause-steady c =
    steady-grown c.loop-place.self c.propagate.new.self c.propagate.ensures.clauses c.propagate.ensures.grown
    c.loop-place.invariant.steady
