-- the next id is new
use Rattle.std.proofs.Common.{arith, length, ap}
use Rattle.gr_work.specs.WorkSets.{WorkList}
use Rattle.gr_work.proofs.tests.agrees_with_a_scanned_list.Goals as goal

pub loop-id-init : goal.loop-id-init
loop-id-init g c = λ k d low. absurd (omega (arith, low, ap (λ (w : WorkList). length w.items) c.in_ok-work.ensures))
