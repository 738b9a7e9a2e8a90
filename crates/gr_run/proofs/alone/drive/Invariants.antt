use Rattle.std.proofs.Common.{◌≡◌, false}
use Rattle.gr_bench.specs.Exchanges.{IsSameExchange}
use Rattle.gr_search.specs.Tellings.{is_imported}
use Rattle.gr_run.specs.Driving.{IsDriven}
use Rattle.gr_run.specs.Offers.{AreFilteredBy}
use Rattle.gr_run.proofs.alone.drive.Given as goal

-- the search follows the history, and there is nothing to take over
abbrev pub invariant-loop-ask : goal.invariant-loop-ask
invariant-loop-ask g l = record {
  same : IsSameExchange l.fn.bench l.bench;
  filter : l.search.filter ≡ l.fn.search.filter;
  alone : is_imported l.told ≡ false;
  driven : IsDriven l.fn.bench.formula l.fn.bench.reducers l.fn.bench.capacity l.fn.search.state.limit
      l.fn.search.state.keep_all l.bench.diary.entries l.search.state l.told;
  filtered : AreFilteredBy (goal.F-post g l.fn.search.filter.f) l.bench.diary.entries;
}

abbrev pub decreases-loop-ask : goal.decreases-loop-ask
decreases-loop-ask g l = l.search.state.left
