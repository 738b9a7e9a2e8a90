use Rattle.std.proofs.Common.{◌<◌, length, set, ap, ◌∙◌, arith}
use Rattle.std.proofs.lemmas.List.Edits.{map_over_more}
use Rattle.gr_prop.specs.Compactions.{moved_watch}
use Rattle.gr_prop.proofs.MovedLists.{watch-moved, long-as}
use Rattle.gr_prop.proofs.compacting.move_list.Goals as goal

pub loop-index-preserved : goal.loop-index-preserved
loop-index-preserved c =
    let i = c.loop-index.invariant in
    let long = long-as (moved_watch c.args.moves.now) c.args.list.now.items c.loop-index.list.items
    c.loop-index.index i.within i.moved in
    let low : c.loop-index.index < length c.args.list.now.items = omega arith in
    record {
      within = omega arith;
      moved = ap (set c.loop-index.list.items c.loop-index.index)
          (watch-moved c.args.moves.now c.index-watch.result.now c.to.result c.to.ensures)
          ∙ map_over_more (moved_watch c.args.moves.now) c.args.list.now.items c.loop-index.list.items
          c.loop-index.index c.index-watch.result.now low i.moved c.index-watch.ensures;
    }
