-- the history is legal after each step
use Rattle.gr_bench.specs.OverChain.{IsOverChain}
use Rattle.gr_bench.proofs.long_runs.agrees.Given as goal

abbrev pub invariant-steps : goal.invariant-steps
invariant-steps l = IsOverChain l.bench
