use Rattle.std.proofs.Common.{◌≡◌}
use Rattle.gr_timing.proofs.watches.walk_all.Given as goal

abbrev pub invariant-loop-index : goal.invariant-loop-index
invariant-loop-index l = l.watches ≡ l.fn.watches
