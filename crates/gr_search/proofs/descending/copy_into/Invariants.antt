-- the literals so far are copied
use Rattle.std.proofs.Common.{◌≡◌, take}
use Rattle.gr_search.proofs.descending.copy_into.Given as goal

abbrev pub invariant-loop-lit : goal.invariant-loop-lit
invariant-loop-lit l = l.clause ≡ take l.lit-index l.lits
