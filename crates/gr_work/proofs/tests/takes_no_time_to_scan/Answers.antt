-- the next id is new
use Rattle.std.proofs.Common.{arith, ◌+◌, length, ap}
use Rattle.gr_work.specs.WorkSets.{WorkList}
use Rattle.gr_work.proofs.Fresh.{new_id, still_below, entered_below}
use Rattle.gr_work.proofs.tests.takes_no_time_to_scan.Goals as goal

pub loop-id-init : goal.loop-id-init
loop-id-init g c = λ k d low. absurd (omega (arith, low, ap (λ (w : WorkList). length w.items) c.in_ok-work.ensures))

pub enter-requires : goal.enter-requires
enter-requires g c = new_id c.loop-id.id c.loop-id.work.items c.loop-id.invariant

pub loop-id-preserved : goal.loop-id-preserved
loop-id-preserved g c =
    rw c.in_ok-left.ensures.ok
    (entered_below (c.loop-id.id + 1) c.loop-id.work.items c.loop-id.work.capacity _ (omega arith)
    (still_below c.loop-id.id (c.loop-id.id + 1) c.loop-id.work.items (omega arith) c.loop-id.invariant))
