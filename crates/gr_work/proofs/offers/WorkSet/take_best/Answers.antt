-- a set with an item less is sound
use Rattle.std.proofs.Common.{arith}
use Rattle.std.specs.Map.{values_of}
use Rattle.gr_work.proofs.Entries.{still_room, still_apart_without}
use Rattle.gr_work.proofs.offers.WorkSet.take_best.Goals as goal

pub invariant_of-self : goal.invariant_of-self
invariant_of-self c = record {
  bounded = c.self.invariant.bounded;
  room = rw c.take_best.ensures.rest (omega (
    arith,
    c.self.invariant.room,
    still_room c.take_best.result (values_of c.self.inside.indexes.arrivals.entries),
  ));
  different = rw c.take_best.ensures.rest
      (still_apart_without c.take_best.result (values_of c.self.inside.indexes.arrivals.entries)
      c.self.invariant.different);
  ranking_is = c.take_best.ensures.ranked;
}
