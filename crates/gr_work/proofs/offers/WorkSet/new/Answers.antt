-- a set without items is sound
use Rattle.std.proofs.Common.{arith}
use Rattle.gr_work.proofs.Entries.{none_apart}
use Rattle.gr_work.proofs.offers.WorkSet.new.Goals as goal

pub invariant_of-result : goal.invariant_of-result
invariant_of-result c = record {
  bounded = (c.requires.some, c.requires.few);
  room = rw c.new.ensures.items (omega arith);
  different = rw c.new.ensures.items none_apart;
  ranking_is = c.new.ensures.ranked;
}
