use Rattle.std.proofs.Common.{◌<◌, length, set, ap, ◌∙◌, arith}
use Rattle.std.proofs.lemmas.List.Edits.{map_over_more}
use Rattle.gr_prop.specs.BaseChanges.{moved_place}
use Rattle.gr_prop.proofs.MovedLists.{place-moved, long-as}
use Rattle.gr_prop.proofs.compacting.move_places.Goals as goal

pub loop-index-preserved : goal.loop-index-preserved
loop-index-preserved c =
    let i = c.loop-index.invariant in
    let long = long-as (moved_place c.args.moves.now) c.args.places.now.items c.loop-index.places.items
    c.loop-index.index i.within i.moved in
    let low : c.loop-index.index < length c.args.places.now.items = omega arith in
    record {
      within = omega arith;
      moved = ap (set c.loop-index.places.items c.loop-index.index)
          (place-moved c.args.moves.now c.index-place.result.now c.to.result c.to.ensures)
          ∙ map_over_more (moved_place c.args.moves.now) c.args.places.now.items c.loop-index.places.items
          c.loop-index.index c.index-place.result.now low i.moved c.index-place.ensures;
    }
