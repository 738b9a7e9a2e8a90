use Rattle.gr_seat.specs.Turns.{SeesMore}
use Rattle.gr_reducer.specs.Steps.{IsInStep, KeepsTaken}
use Rattle.gr_reducer.proofs.units.share_units.Given as goal

-- what was shared is kept
abbrev pub invariant-loop : goal.invariant-loop
invariant-loop g l = record {
  sees : SeesMore l.initial.seat l.seat;
  in_step : IsInStep l.seat l.keeping.strengthener;
  taken : KeepsTaken l.initial.seat l.seat;
}
