-- a live slot is moved, a dead one passed over
use Rattle.std.proofs.Common.{◌≡◌, ◌∙◌, ap, sym, arith, length-set}
use Rattle.std.specs.Prelude.{slice_index}
use Rattle.std.proofs.lemmas.List.{get_or_read}
use Rattle.gr_heur.proofs.Dropping.{moved, passed, live_fit}
use Rattle.gr_heur.proofs.queues.Queue.drop_dead.Goals as goal
use Rattle.gr_heur.proofs.queues.Queue.drop_dead.Goals.{then-index-at, else-index-at}

variable_at : (c : goal.Joined-index-at) → slice_index c.loop-at.self.slots.items c.loop-at.at ≡ c.index.result.now
variable_at c =
    let dropping = c.loop-at.invariant.dropping in
    sym (get_or_read c.loop-at.self.slots.items c.loop-at.at c.index.result.now
    (omega (arith, c.loop-at-test.true, dropping.queue.short)) c.index.ensures 0)

place_at : (c : goal.Joined-index-at)
    → slice_index c.loop-at.self.places.items c.index.result.now ≡ c.index-in-loop-at.result.now
place_at c =
    let dropping = c.loop-at.invariant.dropping in
    sym (get_or_read c.loop-at.self.places.items c.index.result.now c.index-in-loop-at.result.now
    (omega (arith, variable_at c, dropping.queue.known c.loop-at.at c.loop-at-test.true))
    c.index-in-loop-at.ensures 0)

pub loop-at-preserved : goal.loop-at-preserved
loop-at-preserved c = elim c.if-index-at.branch [
  | then-index-at w ↦ rw (w.self-is, w.kept-is) (record {
    dropping = moved c.loop-at.invariant.dropping c.loop-at-test.true c.index.result.now (variable_at c)
        (place_at c ∙ w.if-index-at.true);
    slots = length-set c.loop-at.self.slots.items c.loop-at.kept c.index.result.now ∙ c.loop-at.invariant.slots;
    base = c.loop-at.invariant.base;
  })
  | else-index-at w ↦ rw (w.self-is, w.kept-is) (record {
    dropping = passed c.loop-at.invariant.dropping c.loop-at-test.true
        (λ e. w.if-index-at.false
        (sym (ap (slice_index c.loop-at.self.places.items) (variable_at c) ∙ place_at c) ∙ e));
    slots = c.loop-at.invariant.slots;
    base = c.loop-at.invariant.base;
  })
]

pub returns-clause-live : goal.returns-clause-live
returns-clause-live c none = live_fit c.loop-at.invariant.dropping none
