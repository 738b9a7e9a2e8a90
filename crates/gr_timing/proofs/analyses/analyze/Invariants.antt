use Rattle.std.proofs.Common.{◌≡◌}
use Rattle.gr_timing.proofs.analyses.analyze.Given as goal

abbrev pub invariant-loop-time : goal.invariant-loop-time
invariant-loop-time l = l.analyzer.vars ≡ l.fn.analyzer.vars
