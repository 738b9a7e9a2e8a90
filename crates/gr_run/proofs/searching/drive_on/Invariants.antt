use Rattle.std.proofs.Common.{◌≡◌}
use Rattle.gr_seat.specs.Turns.{SeesMore}
use Rattle.gr_run.specs.Driving.{IsDriven}
use Rattle.gr_run.specs.Offers.{AreFilteredBy}
use Rattle.gr_run.proofs.searching.drive_on.Given as goal

-- the search follows what its seat has seen
abbrev pub invariant-loop-round : goal.invariant-loop-round
invariant-loop-round g l = record {
  sees : SeesMore l.fn.seat l.seat;
  filter : l.search.filter ≡ l.fn.search.filter;
  driven : IsDriven l.fn.seat.formula l.fn.seat.reducers l.fn.seat.capacity l.fn.search.state.limit
      l.fn.search.state.keep_all l.seat.seen l.search.state l.told;
  filtered : AreFilteredBy (goal.F-post g l.fn.search.filter.f) l.seat.seen;
}
