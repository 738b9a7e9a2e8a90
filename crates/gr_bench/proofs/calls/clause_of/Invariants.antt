-- the literals of the numbers in `rest` are still to come
use Rattle.std.proofs.Common.{◌≡◌, ◌++◌, length, map}
use Rattle.gr_bench.specs.Runs.{literal_of}
use Rattle.gr_bench.proofs.calls.clause_of.Given as goal

abbrev pub invariant-numbers : goal.invariant-numbers
invariant-numbers l = l.clause ++ map literal_of l.rest ≡ map literal_of l.fn.numbers

abbrev pub decreases-numbers : goal.decreases-numbers
decreases-numbers l = length l.rest
