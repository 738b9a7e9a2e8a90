-- the runs that are still to be looked at
use Rattle.std.proofs.Common.{◌≡◌, drop}
use Rattle.gr_check.specs.Runs.{end_in_order}
use Rattle.gr_check.proofs.compaction.end_in_order.Given as goal

abbrev pub invariant-loop-slot : goal.invariant-loop-slot
invariant-loop-slot l = end_in_order l.count l.end (drop l.slot-index l.slots) ≡ end_in_order l.count l.start l.slots
