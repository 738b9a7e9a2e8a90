-- one more id is located, and one more first literal is fetched
use Rattle.std.proofs.Common.{◌≡◌, ℕ, ◌<◌, sym, ap, ◌∙◌, get_or, set, nat_eq, List, Option, None, below_more, arith, length, length-set, get_or-set_same, get_or-set_other}
use Rattle.std.proofs.lemmas.List.{get_or_read}
use Rattle.std.specs.Prelude.{option_map, slice_get}
use Rattle.std.specs.Map.{lookup}
use Rattle.gr_check.specs.Runs.{lits_of, lits_in}
use Rattle.gr_check.specs.Entries.{entries_of}
use Rattle.gr_check.specs.declared.runs.Run.{Run}
use Rattle.gr_check.proofs.Moves.{found_within}
use Rattle.gr_check.proofs.RunMaps.{get-clauses_of}
use Rattle.gr_check.proofs.pool.Pool.locate.Goals as goal
use Rattle.gr_check.proofs.pool.Pool.locate.Goals.{then-len-ids+in_ok-resize, else-len-ids, then-len-ids-2+in_ok-resize-2, else-len-ids-2}

pub loop-i-init : goal.loop-i-init
loop-i-init c = record {
  room = elim c.if-len-ids.branch [
    | then-len-ids+in_ok-resize w ↦ rw w.places-is (omega (arith, w.in_ok-resize.ensures.len))
    | else-len-ids w ↦ rw w.places-is (omega (arith, w.if-len-ids.false, c.len.ensures))
  ];
  within = λ j lt. absurd (omega (arith, lt));
  found = λ j lt. absurd (omega (arith, lt));
}

pub loop-i-preserved : goal.loop-i-preserved
loop-i-preserved c =
    let id : ℕ = get_or c.args.ids.now c.loop-i.i 0 in
    let in_range : c.loop-i.i < length c.loop-i.places.items = omega (arith, c.loop-i.invariant.room) in
    let new : List (Option Run) = set c.loop-i.places.items c.loop-i.i c.get.result in
    let same : (j : ℕ) → j < c.loop-i.i → get_or new j None ≡ get_or c.loop-i.places.items j None =
    λ j lt. get_or-set_other c.loop-i.places.items c.loop-i.i j c.get.result None (omega (arith, lt)) in
    let here : get_or new c.loop-i.i None ≡ lookup (nat_eq id) (entries_of c.self.inside.runs) =
    get_or-set_same c.loop-i.places.items c.loop-i.i c.get.result None in_range ∙ c.get.ensures in
    record {
      room = rw (length-set c.loop-i.places.items c.loop-i.i c.get.result) c.loop-i.invariant.room;
      within = below_more _ _ (λ j lt run is. c.loop-i.invariant.within j lt run (sym (same j lt) ∙ is))
          (λ run is. c.self.invariant id run (sym here ∙ is));
      found = below_more _ _ (λ j lt. c.loop-i.invariant.found j lt
          ∙ ap (option_map (lits_of c.self.inside.lits.items)) (sym (same j lt)))
          (rw (← c.self.view_is) (get-clauses_of c.self.inside.lits.items (entries_of c.self.inside.runs)
          id ∙ ap (option_map (lits_of c.self.inside.lits.items)) (sym here)));
    }

pub loop-k-init : goal.loop-k-init
loop-k-init c = record {
  room = elim c.if-len-ids-2.branch [
    | then-len-ids-2+in_ok-resize-2 w ↦ rw w.firsts-is (omega (arith, w.in_ok-resize-2.ensures.len))
    | else-len-ids-2 w ↦ rw w.firsts-is (omega (arith, w.if-len-ids-2.false, c.len-2.ensures))
  ];
  first = λ j lt. absurd (omega (arith, lt));
}

pub first_at-requires : goal.first_at-requires
first_at-requires c =
    rw (
      get_or_read c.loop-i.places.items c.loop-k.k _ (omega
          (arith, c.loop-i.invariant.room)) c.index.ensures None,
      c.deref.ensures.value,
    )
    (found_within (length c.self.inside.lits.items) (get_or c.loop-i.places.items c.loop-k.k None)
    (λ run is. c.loop-i.invariant.within c.loop-k.k (omega arith) run is))

pub loop-k-preserved : goal.loop-k-preserved
loop-k-preserved c =
    let in_range : c.loop-k.k < length c.loop-k.firsts.items = omega (arith, c.loop-k.invariant.room) in
    let place : c.index.result.now ≡ get_or c.loop-i.places.items c.loop-k.k None =
    get_or_read c.loop-i.places.items c.loop-k.k _ (omega (arith, c.loop-i.invariant.room)) c.index.ensures None in
    record {
      room = rw (length-set c.loop-k.firsts.items c.loop-k.k c.first_at.result) c.loop-k.invariant.room;
      first = below_more _ _
          (λ j lt. get_or-set_other c.loop-k.firsts.items c.loop-k.k j c.first_at.result None (omega (arith, lt))
          ∙ c.loop-k.invariant.first j lt)
          (get_or-set_same c.loop-k.firsts.items c.loop-k.k c.first_at.result None in_range ∙ c.first_at.ensures
          ∙ ap (λ ls. slice_get (lits_in ls c.index.result.now) 0) c.deref.ensures.value
          ∙ ap (λ run. slice_get (lits_in c.self.inside.lits.items run) 0) place);
    }

pub returns : goal.returns
returns c = record {
  count = c.loop-i.invariant.room;
  count_firsts = c.loop-k.invariant.room;
  within = λ j lt run is. rw c.as_slice.ensures.value (c.loop-i.invariant.within j (omega (arith, lt)) run is);
  found = λ j lt. rw c.as_slice.ensures.value (c.loop-i.invariant.found j (omega (arith, lt)));
  first = λ j lt. rw c.as_slice.ensures.value (c.loop-k.invariant.first j (omega (arith, lt)));
}
