use Rattle.gr_search.proofs.Going.{steady-grown}
use Rattle.gr_search.proofs.solving.Solver.ask_on_ground.Goals as goal

pub learn-requires-clause-steady : goal.learn-requires-clause-steady
learn-requires-clause-steady c =
    steady-grown c.args.self.now c.propagate.new.self c.propagate.ensures.clauses c.propagate.ensures.grown
    c.requires.steady

pub ask_propagated-requires-clause-steady : goal.ask_propagated-requires-clause-steady
ask_propagated-requires-clause-steady c =
    steady-grown c.args.self.now c.propagate.new.self c.propagate.ensures.clauses c.propagate.ensures.grown
    c.requires.steady
