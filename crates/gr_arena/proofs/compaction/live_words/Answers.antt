-- each step counts the next block, or passes it over
use Rattle.std.proofs.Common.{◌+◌, length, drop, sym, ap, ◌∙◌, arith}
use Rattle.std.proofs.lemmas.List.{length-append}
use Rattle.gr_arena.specs.Blocks.{blocks_in, flat, live, words_of}
use Rattle.gr_arena.proofs.Runs.{size_is}
use Rattle.gr_arena.proofs.Steps.{next, total, whole, size_read, live_read}
use Rattle.gr_arena.proofs.Relocating.{next_laid, live_counted, dead_counted, short}
use Rattle.gr_arena.proofs.compaction.live_words.Goals as goal

pub size_at-requires : goal.size_at-requires
size_at-requires c =
    let n = next c.args.words.now c.loop-place.place c.loop-place.invariant.laid
    c.loop-place-test.true in
    omega (arith, total n c.loop-place-test.true)

pub overflow_add-next : goal.overflow_add-next
overflow_add-next c =
    let n = next c.args.words.now c.loop-place.place c.loop-place.invariant.laid
    c.loop-place-test.true in
    omega (arith, whole n c.loop-place-test.true c.size_at.result c.size_at.ensures)

pub is_live-requires : goal.is_live-requires
is_live-requires c =
    let n = next c.args.words.now c.loop-place.place c.loop-place.invariant.laid
    c.loop-place-test.true in
    omega (arith, total n c.loop-place-test.true)

pub overflow_add-count : goal.overflow_add-count
overflow_add-count c =
    let n = next c.args.words.now c.loop-place.place c.loop-place.invariant.laid
    c.loop-place-test.true in
    let at = ap (λ k. c.loop-place.place + k) (c.size_at.ensures
    ∙ size_read n c.loop-place-test.true) in
    let e = sym (live_read n c.loop-place-test.true) ∙ sym c.is_live.ensures ∙ c.if-is_live.true in
    let to = c.loop-place.place + c.size_at.result in
    omega (
      arith,
      at,
      ap length (live_counted n c.loop-place-test.true to at e),
      length-append (words_of n.block) (flat (live (blocks_in (drop to c.args.words.now)))),
      size_is n.block,
      c.loop-place.invariant.left,
      short c.args.words.now c.requires,
    )

pub loop-place-preserved-then-is_live : goal.loop-place-preserved-then-is_live
loop-place-preserved-then-is_live c =
    let n = next c.args.words.now c.loop-place.place c.loop-place.invariant.laid
    c.loop-place-test.true in
    let at = ap (λ k. c.loop-place.place + k) (c.size_at.ensures
    ∙ size_read n c.loop-place-test.true) in
    let e = sym (live_read n c.loop-place-test.true) ∙ sym c.is_live.ensures ∙ c.if-is_live.true in
    let to = c.loop-place.place + c.size_at.result in
    record {
      laid = next_laid n c.loop-place-test.true to at;
      left = omega (
        arith,
        at,
        ap length (live_counted n c.loop-place-test.true to at e),
        length-append (words_of n.block) (flat (live (blocks_in (drop to c.args.words.now)))),
        size_is n.block,
        c.loop-place.invariant.left,
      );
    }

pub loop-place-preserved : goal.loop-place-preserved
loop-place-preserved c =
    let n = next c.args.words.now c.loop-place.place c.loop-place.invariant.laid
    c.loop-place-test.true in
    let at = ap (λ k. c.loop-place.place + k) (c.size_at.ensures
    ∙ size_read n c.loop-place-test.true) in
    let e = sym (live_read n c.loop-place-test.true) ∙ sym c.is_live.ensures ∙ c.if-is_live.false in
    let to = c.loop-place.place + c.size_at.result in
    record {
      laid = next_laid n c.loop-place-test.true to at;
      left = omega (
        arith,
        ap length (dead_counted n c.loop-place-test.true to at e),
        c.loop-place.invariant.left,
      );
    }
