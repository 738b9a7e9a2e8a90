-- the next id is new
use Rattle.gr_work.proofs.Fresh.{AreBelow}
use Rattle.gr_work.proofs.tests.takes_no_time_to_scan.Given as goal

abbrev pub invariant-loop-id : goal.invariant-loop-id
invariant-loop-id g l = AreBelow l.id l.work.items
