-- the next id is new
use Rattle.gr_work.proofs.Fresh.{AreBelow}
use Rattle.gr_work.proofs.tests.agrees_with_a_scanned_list.Given as goal

abbrev pub invariant-loop-id : goal.invariant-loop-id
invariant-loop-id g l = AreBelow l.id-counter l.work.items
