-- the ids that are still leaving
use Rattle.std.proofs.Common.{drop}
use Rattle.gr_check.specs.Deletions.{AreAmong}
use Rattle.gr_check.proofs.deletions.release.Given as goal

abbrev pub invariant-loop-id : goal.invariant-loop-id
invariant-loop-id l = AreAmong l.leaving.keys (drop l.id-index l.ids)
