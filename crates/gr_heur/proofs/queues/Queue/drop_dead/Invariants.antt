-- the live slots before the place that is looked at stand together from `from` on
use Rattle.std.proofs.Common.{◌≡◌, length}
use Rattle.gr_heur.proofs.Dropping.{IsDropping}
use Rattle.gr_heur.proofs.queues.Queue.drop_dead.Given as goal

abbrev pub invariant-loop-at : goal.invariant-loop-at
invariant-loop-at l = record {
  dropping : IsDropping l.fn.self.places.items l.fn.from l.fn.self.len
      l.self.slots.items l.self.places.items l.at l.kept;
  slots : length l.self.slots.items ≡ length l.fn.self.slots.items;
  base : l.self.base ≡ l.fn.self.base;
}
