-- the ids that are left
use Rattle.std.proofs.Common.{◌≡◌, drop}
use Rattle.gr_logic.specs.Log.{without}
use Rattle.gr_check.proofs.deletions.remove_all.Given as goal

-- without the ids that are left it is what it is to be
abbrev pub invariant-loop-id : goal.invariant-loop-id
invariant-loop-id l = without l.pool (drop l.id-index l.ids) ≡ without l.fn.pool l.ids
