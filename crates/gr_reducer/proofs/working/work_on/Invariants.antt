use Rattle.gr_seat.specs.Turns.{SeesMore}
use Rattle.gr_reducer.specs.Steps.{IsBetweenRounds}
use Rattle.gr_reducer.proofs.working.work_on.Given as goal

-- a round begins as the one before it ended
abbrev pub invariant-loop : goal.invariant-loop
invariant-loop g l = record {
  sees : SeesMore l.initial.seat l.seat;
  ready : IsBetweenRounds l.fn.bench l.seat l.keeping.strengthener;
}
