-- the variable passes a dead slot, or changes places with one that is as active and of lesser number
use Rattle.std.proofs.Common.{◌≡◌, ◌≢◌, ◌-◌, ◌<◌, ◌∙◌, length, set, ap, sym, arith, length-set}
use Rattle.std.specs.Prelude.{slice_index}
use Rattle.std.proofs.lemmas.List.{get_or_read}
use Rattle.gr_heur.proofs.Settling.{passed_dead, swapped}
use Rattle.gr_heur.proofs.queues.Queue.settle.Goals as goal
use Rattle.gr_heur.proofs.queues.Queue.settle.Goals.{then-index-at+else-activities-below+else-index-below, else-index-at}

pub loop-at-preserved : goal.loop-at-preserved
loop-at-preserved c =
    let now = c.loop-at.invariant.settling in
    let known : c.args.index < length c.loop-at.self.places.items =
    omega (arith, c.requires.known, c.loop-at.invariant.places) in
    let some = c.loop-at-test.true in
    let slots = c.loop-at.self.slots.items in
    let places = c.loop-at.self.places.items in
    let below = c.index-in-loop-at.result.now in
    let within : c.loop-at.at - 1 < length slots =
    omega (arith, some, now.queue.short, now.stands, now.queue.below c.args.index known) in
    let is : slice_index slots (c.loop-at.at - 1) ≡ below =
    sym (get_or_read slots (c.loop-at.at - 1) below within c.index-in-loop-at.ensures 0) in
    let low : below < length places = omega (
      arith,
      is,
      now.queue.known (c.loop-at.at - 1)
          (omega (arith, some, now.stands, now.queue.below c.args.index known)),
    ) in
    let place : slice_index places below ≡ c.index-in-loop-at-2.result.now =
    sym (get_or_read places below c.index-in-loop-at-2.result.now low c.index-in-loop-at-2.ensures 0) in
    elim c.if-index-at.branch [
      | then-index-at+else-activities-below+else-index-below w ↦
          (let live : slice_index places below ≡ c.loop-at.at - 1 = place ∙ w.if-index-at.true in
          let active : slice_index c.args.activities.now below ≡ slice_index c.args.activities.now c.args.index =
          omega (arith, w.if-activities-below.false, c.requires.greatest below) in
          let less : below < c.args.index = (let stands = now.stands in
          let apart : below ≢ c.args.index = (λ e. omega (arith, ap (slice_index places) e, live, stands, some)) in
          omega (arith, w.if-index-below.false, apart)) in
          rw w.self-is (record {
            settling = swapped now known some below is live active less;
            places = length-set (set places below c.loop-at.at) c.args.index (c.loop-at.at - 1)
                ∙ length-set places below c.loop-at.at ∙ c.loop-at.invariant.places;
            slots = length-set (set slots c.loop-at.at below) (c.loop-at.at - 1) c.args.index
                ∙ length-set slots c.loop-at.at below ∙ c.loop-at.invariant.slots;
            len = c.loop-at.invariant.len;
            base = c.loop-at.invariant.base;
            fresh = c.loop-at.invariant.fresh;
          }))
      | else-index-at w ↦ rw w.self-is (record {
        settling = passed_dead now known some below is (λ e. w.if-index-at.false (sym place ∙ e));
        places = length-set places c.args.index (c.loop-at.at - 1) ∙ c.loop-at.invariant.places;
        slots = length-set (set slots c.loop-at.at below) (c.loop-at.at - 1) c.args.index
            ∙ length-set slots c.loop-at.at below ∙ c.loop-at.invariant.slots;
        len = c.loop-at.invariant.len;
        base = c.loop-at.invariant.base;
        fresh = c.loop-at.invariant.fresh;
      })
    ]
