-- each round decides a variable more
use Rattle.std.proofs.Common.{◌≡◌, ◌-◌, length}
use Rattle.gr_search.specs.Solvers.{IsSteady}
use Rattle.gr_search.specs.TakingOver.{Stays}
use Rattle.gr_search.proofs.solving.Solver.descend.Given as goal

abbrev pub invariant-loop-place : goal.invariant-loop-place
invariant-loop-place l = record {
  steady : IsSteady l.self;
  stays : Stays l.fn.self l.self;
  clauses : l.self.base.clauses ≡ l.fn.self.base.clauses;
  counts : l.self.counts ≡ l.fn.self.counts;
  settled : l.self.settled ≡ l.fn.self.settled;
}

abbrev pub decreases-loop-place : goal.decreases-loop-place
decreases-loop-place l = l.self.vars - length l.self.base.trail.assigned
