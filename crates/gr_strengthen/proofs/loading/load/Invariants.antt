use Rattle.std.proofs.Common.{◌≤◌, ◌-◌, length}
use Rattle.gr_strengthen.specs.Loading.{IsLoaded}
use Rattle.gr_strengthen.proofs.loading.load.Given as goal

-- the clauses before the index were loaded
abbrev pub invariant-loop-index : goal.invariant-loop-index
invariant-loop-index l = record {
  within : l.index ≤ length l.formula.clauses;
  loaded : IsLoaded l.formula l.base l.index;
}

abbrev pub decreases-loop-index : goal.decreases-loop-index
decreases-loop-index l = length l.formula.clauses - l.index
