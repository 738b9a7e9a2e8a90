use Rattle.std.proofs.Common.{◌<◌, All}
use Rattle.gr_timing.proofs.trails.literals.Given as goal

abbrev pub invariant-loop-literal : goal.invariant-loop-literal
invariant-loop-literal l = All (λ lit. lit.index < 100_000) l.lits.items
