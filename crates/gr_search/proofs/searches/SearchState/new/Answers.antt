-- a solver that begins is a search that begins
use Rattle.gr_search.proofs.Turning.{begun, begun-searching}
use Rattle.gr_search.proofs.searches.SearchState.new.Goals as goal

pub invariant_of-result : goal.invariant_of-result
invariant_of-result c =
    begun-searching c.args.formula.now c.args.conflicts c.args.keep_all c.in_ok-solver.solver c.in_ok-solver.ensures

pub returns : goal.returns
returns c = begun c.args.formula.now c.args.conflicts c.args.keep_all c.in_ok-solver.solver c.in_ok-solver.ensures
