use Rattle.std.proofs.Common.{◌≡◌}
use Rattle.gr_timing.specs.Rounds.{EndsAs}
use Rattle.gr_timing.proofs.propagations.rounds.Given as goal

abbrev pub invariant-loop-round : goal.invariant-loop-round
invariant-loop-round l = (l.base.trail.vars ≡ l.vars) × EndsAs l.conflict l.base
