use Rattle.std.proofs.Common.{◌+◌, get_or, sym, ◌∙◌, arith}
use Rattle.gr_prop.proofs.MovedLists.{IsIndexMoved, untouched, put-step, skip-step, index-done}
use Rattle.gr_prop.proofs.compacting.move_index.Goals.{in-Some, in_default}
use Rattle.gr_prop.proofs.compacting.move_index.Goals as goal

pub to-requires : goal.to-requires
to-requires c =
    let before : IsIndexMoved c.args.moves.now c.args.places.now c.loop-index.places c.args.ids.now c.loop-index.index =
    record { moved = c.loop-index.invariant.moved; still = c.loop-index.invariant.still } in
    c.requires.moved (get_or c.args.ids.now c.loop-index.index 0) c.in-Some.place
    (sym (untouched c.args.moves.now c.args.places.now c.loop-index.places c.args.ids.now c.loop-index.index
    c.requires.keys.rising c.loop-index-test.true before)
    ∙ sym c.get.ensures ∙ c.in-Some.is)

pub loop-index-preserved : goal.loop-index-preserved
loop-index-preserved c =
    let before : IsIndexMoved c.args.moves.now c.args.places.now c.loop-index.places c.args.ids.now c.loop-index.index =
    record { moved = c.loop-index.invariant.moved; still = c.loop-index.invariant.still } in
    let next : IsIndexMoved c.args.moves.now c.args.places.now c.match-get.places c.args.ids.now
    (c.loop-index.index + 1) = elim c.match-get.branch [
      | in-Some w ↦ put-step c.args.moves.now c.args.places.now c.loop-index.places c.args.ids.now c.loop-index.index
          c.requires.keys.rising c.loop-index-test.true before
          c.match-get.places w.in-Some.place w.to.result (sym c.get.ensures ∙ w.in-Some.is) w.to.ensures
          (w.places-is ∙ w.replace.ensures)
      | in_default w ↦ skip-step c.args.moves.now c.args.places.now c.loop-index.places c.args.ids.now
          c.loop-index.index c.requires.keys.rising c.loop-index-test.true before
          c.match-get.places (sym c.get.ensures ∙ w.in_default.is) w.places-is
    ] in
    record { within = omega arith; moved = next.moved; still = next.still }

pub returns : goal.returns
returns c = index-done c.args.moves.now c.args.places.now c.loop-index.places c.args.ids.now c.loop-index.index
    c.requires.keys.each c.loop-index-test.false
    (record { moved = c.loop-index.invariant.moved; still = c.loop-index.invariant.still })
