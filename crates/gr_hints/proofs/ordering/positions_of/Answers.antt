-- the places are written, and sorted
use Rattle.std.proofs.lemmas.List.Sorted.{IsPermutation-trans}
use Rattle.gr_hints.proofs.ordering.positions_of.Goals as goal

pub returns : goal.returns
returns c =
    let p = c.place-below.ensures.placed in
    record {
      placed = record {
        each = p.each;
        zip = p.zip;
        permuted = IsPermutation-trans p.each c.place-below.new.positions.items c.order.new.positions.items p.permuted
            c.order.ensures.permuted;
      };
      rising = c.order.ensures.sorted;
    }
