-- each step copies the next block and writes it over, or passes it over
use Rattle.std.proofs.Common.{◌≡◌, ◌+◌, ◌-◌, ◌++◌, length, take, drop, sym, ap, ◌∙◌, subst, arith, is_ok, if◌then◌else◌}
use Rattle.std.proofs.lemmas.List.{length-append}
use Rattle.gr_arena.specs.Blocks.{blocks_in, flat, live, words_of}
use Rattle.gr_arena.proofs.Steps.{next, total, whole, size_read, live_read}
use Rattle.gr_arena.proofs.Relocating.{Left, passed, copied_over, live_counted, block_copied}
use Rattle.gr_arena.proofs.compaction.relocate.Goals as goal

pub size_at-requires : goal.size_at-requires
size_at-requires c =
    let n = next c.loop-place.words c.loop-place.place c.loop-place.invariant.left.laid
    c.loop-place-test.true in
    omega (arith, total n c.loop-place-test.true)

pub overflow_add-next : goal.overflow_add-next
overflow_add-next c =
    let n = next c.loop-place.words c.loop-place.place c.loop-place.invariant.left.laid
    c.loop-place-test.true in
    omega (arith, whole n c.loop-place-test.true c.size_at.result c.size_at.ensures)

pub is_live-requires : goal.is_live-requires
is_live-requires c =
    let n = next c.loop-place.words c.loop-place.place c.loop-place.invariant.left.laid
    c.loop-place-test.true in
    omega (arith, total n c.loop-place-test.true)

pub slice_bounds-extend_from_slice-end : goal.slice_bounds-extend_from_slice-end
slice_bounds-extend_from_slice-end c =
    let n = next c.loop-place.words c.loop-place.place c.loop-place.invariant.left.laid
    c.loop-place-test.true in
    omega (arith, whole n c.loop-place-test.true c.size_at.result c.size_at.ensures)

pub unwrap-requires : goal.unwrap-requires
unwrap-requires c =
    let n = next c.loop-place.words c.loop-place.place c.loop-place.invariant.left.laid
    c.loop-place-test.true in
    let at = ap (λ k. c.loop-place.place + k) (c.size_at.ensures
    ∙ size_read n c.loop-place-test.true) in
    let e = sym (live_read n c.loop-place-test.true) ∙ sym c.is_live.ensures ∙ c.if-is_live.true in
    let to = c.loop-place.place + c.size_at.result in
    let piece = block_copied n c.loop-place-test.true to at in
    c.extend_from_slice.ensures.succeeds
    (omega (
      arith,
      ap length piece,
      ap length (live_counted n c.loop-place-test.true to at e),
      length-append (words_of n.block) (flat (live (blocks_in (drop to c.loop-place.words)))),
      ap length c.loop-place.invariant.left.copied,
      length-append c.loop-place.kept.items (flat (live (blocks_in
          (drop c.loop-place.place c.loop-place.words)))),
      c.requires.room,
      c.loop-place.invariant.room,
    ))

pub loop-place-preserved-then-is_live : goal.loop-place-preserved-then-is_live
loop-place-preserved-then-is_live c =
    let n = next c.loop-place.words c.loop-place.place c.loop-place.invariant.left.laid
    c.loop-place-test.true in
    let at = ap (λ k. c.loop-place.place + k) (c.size_at.ensures
    ∙ size_read n c.loop-place-test.true) in
    let e = sym (live_read n c.loop-place-test.true) ∙ sym c.is_live.ensures ∙ c.if-is_live.true in
    let to = c.loop-place.place + c.size_at.result in
    let piece = block_copied n c.loop-place-test.true to at in
    let count : c.len-to.result ≡ length c.loop-place.kept.items =
    omega (arith, c.len-to.ensures) in
    let more : c.extend_from_slice.new.self.items ≡ c.loop-place.kept.items ++ words_of n.block =
    c.extend_from_slice.ensures.items
    ∙ ap (λ r. if is_ok r then c.loop-place.kept.items
    ++ take (to - c.loop-place.place) (drop c.loop-place.place
    c.loop-place.words) else c.loop-place.kept.items) c.unwrap.ensures
    ∙ ap (λ z. c.loop-place.kept.items ++ z) piece in
    record {
      left = subst (λ z. Left c.args.words.now z c.extend_from_slice.new.self.items to)
          (sym c.set_id.ensures)
          (copied_over n c.loop-place-test.true to at c.len-to.result count more
          c.loop-place.invariant.left e);
      room = omega (arith, c.loop-place.invariant.room, c.extend_from_slice.ensures.capacity);
    }

pub loop-place-preserved : goal.loop-place-preserved
loop-place-preserved c =
    let n = next c.loop-place.words c.loop-place.place c.loop-place.invariant.left.laid
    c.loop-place-test.true in
    let at = ap (λ k. c.loop-place.place + k) (c.size_at.ensures
    ∙ size_read n c.loop-place-test.true) in
    let e = sym (live_read n c.loop-place-test.true) ∙ sym c.is_live.ensures ∙ c.if-is_live.false in
    record {
      left = passed n c.loop-place-test.true (c.loop-place.place + c.size_at.result) at
          c.loop-place.invariant.left e;
      room = c.loop-place.invariant.room;
    }
