-- the numbers in `rest` are still to come
use Rattle.std.proofs.Common.{◌≡◌, ◌++◌, length}
use Rattle.gr_bench.proofs.calls.ids_of.Given as goal

abbrev pub invariant-numbers : goal.invariant-numbers
invariant-numbers l = l.ids ++ l.rest ≡ l.fn.numbers

abbrev pub decreases-numbers : goal.decreases-numbers
decreases-numbers l = length l.rest
