-- what stands behind the variable is as active and of lesser number
use Rattle.std.proofs.Common.{◌≡◌, length}
use Rattle.gr_heur.proofs.Settling.{IsSettling}
use Rattle.gr_heur.proofs.queues.Queue.settle.Given as goal

abbrev pub invariant-loop-at : goal.invariant-loop-at
invariant-loop-at l = record {
  settling : IsSettling l.activities l.index l.self.slots.items l.self.places.items l.self.len l.at;
  places : length l.self.places.items ≡ length l.fn.self.places.items;
  slots : length l.self.slots.items ≡ length l.fn.self.slots.items;
  len : l.self.len ≡ l.fn.self.len;
  base : l.self.base ≡ l.fn.self.base;
  fresh : l.self.fresh ≡ l.fn.self.fresh;
}

abbrev pub decreases-loop-at : goal.decreases-loop-at
decreases-loop-at l = l.at
