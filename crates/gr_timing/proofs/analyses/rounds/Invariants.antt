use Rattle.std.proofs.Common.{◌≡◌}
use Rattle.gr_timing.specs.Rounds.{EndsAs}
use Rattle.gr_timing.proofs.analyses.rounds.Given as goal

abbrev pub invariant-loop-round : goal.invariant-loop-round
invariant-loop-round l = record {
  base : l.base.trail.vars ≡ l.vars;
  analyzer : l.analyzer.vars ≡ l.vars;
  ended : EndsAs l.conflict l.base;
}
