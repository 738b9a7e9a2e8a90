-- one more run is moved
use Rattle.std.proofs.Common.{◌≡◌, ◌+◌, ◌<◌, ◌≤◌, true, length, drop, get_or, None, arith, sym, ◌∙◌, ap}
use Rattle.std.proofs.lemmas.List.{get_or_read, length-set, take_all}
use Rattle.gr_check.specs.Runs.{IsRunWithin, begins_from, run_length, end_of}
use Rattle.gr_check.proofs.Sliding.{same_slot_at, next_begins, next_order, later, slots_behind, slid_next, end_within, next_end, last_end, kept_next}
use Rattle.gr_check.proofs.compaction.slide.Goals as goal

-- the run at hand ends within
pub slide_slot-requires-clause-within : goal.slide_slot-requires-clause-within
slide_slot-requires-clause-within c =
    let in_range : c.loop-i.i < length c.loop-i.slots.items = omega arith in
    let in_old : c.loop-i.i < length c.args.slots.now.items = omega (arith, c.loop-i.invariant.count_slots) in
    let slot : c.index-slot.result.now ≡ get_or c.args.slots.now.items c.loop-i.i None =
    get_or_read c.loop-i.slots.items c.loop-i.i _ in_range c.index-slot.ensures None
    ∙ same_slot_at c.loop-i.slots.items c.args.slots.now.items c.loop-i.i in_range in_old
    c.loop-i.invariant.same_slots in
    rw (slot, c.loop-i.invariant.count) (c.requires.within c.loop-i.i None in_old)

pub loop-i-preserved : goal.loop-i-preserved
loop-i-preserved c =
    let in_range : c.loop-i.i < length c.loop-i.slots.items = omega arith in
    let in_old : c.loop-i.i < length c.args.slots.now.items = omega (arith, c.loop-i.invariant.count_slots) in
    let slot : c.index-slot.result.now ≡ get_or c.args.slots.now.items c.loop-i.i None =
    get_or_read c.loop-i.slots.items c.loop-i.i _ in_range c.index-slot.ensures None
    ∙ same_slot_at c.loop-i.slots.items c.args.slots.now.items c.loop-i.i in_range in_old
    c.loop-i.invariant.same_slots in
    let begins : begins_from c.loop-i.end (get_or c.args.slots.now.items c.loop-i.i None) ≡ true =
    next_begins c.args.slots.now.items c.loop-i.i c.loop-i.end in_old c.loop-i.invariant.order in
    let within : IsRunWithin (length c.loop-i.lits.items) (get_or c.args.slots.now.items c.loop-i.i None) =
    rw c.loop-i.invariant.count (c.requires.within c.loop-i.i None in_old) in
    let long : c.slot_len-end.result ≡ run_length (get_or c.args.slots.now.items c.loop-i.i None) =
    c.slot_len-end.ensures ∙ ap run_length slot in
    record {
      count = c.slide_slot.ensures.count ∙ c.loop-i.invariant.count;
      end_within =
          rw (long, c.slide_slot.ensures.count)
          (end_within (length c.loop-i.lits.items) c.loop-i.end _ begins within
          c.loop-i.invariant.end_within);
      started = omega (arith, c.loop-i.invariant.started);
      ends =
          ap (λ n. end_of (c.loop-i.end + n) (drop (c.loop-i.i + 1) c.args.slots.now.items)) long
          ∙ sym (next_end c.args.slots.now.items c.loop-i.i c.loop-i.end in_old) ∙ c.loop-i.invariant.ends;
      kept =
          kept_next c.args.lits.now.items c.loop-i.lits.items c.slide_slot.new.lits.items _ c.args.start
          c.loop-i.end _ c.loop-i.invariant.started c.loop-i.invariant.end_within c.slide_slot.ensures.moved
          c.loop-i.invariant.kept;
      rest =
          rw c.slot_len-end.ensures c.slide_slot.ensures.rest
          ∙ later c.loop-i.lits.items c.args.lits.now.items c.loop-i.end
          (c.loop-i.end + c.slot_len-end.result) (omega arith) c.loop-i.invariant.rest;
      count_slots = length-set _ _ _ ∙ c.loop-i.invariant.count_slots;
      same_slots =
          slots_behind c.loop-i.slots.items c.args.slots.now.items c.loop-i.i c.slide_slot.result
          c.loop-i.invariant.same_slots;
      order = rw long (next_order c.args.slots.now.items c.loop-i.i c.loop-i.end in_old c.loop-i.invariant.order);
      moved =
          rw (c.slide_slot.ensures.run, slot, long)
          (slid_next c.args.lits.now.items c.loop-i.lits.items c.slide_slot.new.lits.items
          c.args.slots.now.items c.loop-i.slots.items c.loop-i.i c.loop-i.end in_old in_range
          c.loop-i.invariant.end_within within begins c.loop-i.invariant.rest
          (rw slot at c.slide_slot.ensures.moved) c.loop-i.invariant.moved);
    }

pub returns : goal.returns
returns c =
    let all : length c.args.slots.now.items ≤ c.loop-i.i = omega (arith, c.loop-i.invariant.count_slots) in
    let all_new : length c.loop-i.slots.items ≤ c.loop-i.i = omega arith in
    record {
      slid = record {
        ends =
            sym (last_end c.args.slots.now.items c.loop-i.i c.loop-i.end all) ∙ c.loop-i.invariant.ends;
        started = c.loop-i.invariant.started;
        reached = c.loop-i.invariant.end_within;
        count = c.loop-i.invariant.count;
        kept = c.loop-i.invariant.kept;
        rest = c.loop-i.invariant.rest;
        moved =
            rw (take_all c.loop-i.i c.args.slots.now.items all, take_all c.loop-i.i c.loop-i.slots.items all_new)
            at c.loop-i.invariant.moved;
      };
    }
