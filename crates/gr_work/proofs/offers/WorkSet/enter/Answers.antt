-- a set with the latest item, and without the earliest one where there was no room
use Rattle.std.proofs.Common.{◌≡◌, ◌≤◌, ℕ, true, false, List, [], ◌∷◌, ◌++◌, length, nat_eq, if◌then◌else◌, None}
use Rattle.std.proofs.Common.{arith, sym, ap, ◌∙◌}
use Rattle.std.specs.Prelude.{slice_get}
use Rattle.std.specs.Map.{values_of}
use Rattle.std.proofs.lemmas.Bool.Decides.{nat_tests}
use Rattle.std.proofs.lemmas.List.{length-map}
use Rattle.gr_logic.specs.declared.items.Item.{Item}
use Rattle.gr_work.specs.WorkSets.{WorkList, is_in}
use Rattle.gr_work.proofs.Entries.{push_apart, rest_apart, length-without_first, length-push, first-push}
use Rattle.gr_work.proofs.offers.WorkSet.enter.Goals as goal

pub invariant_of-self-then-len-self : goal.invariant_of-self-then-len-self
invariant_of-self-then-len-self c =
    let old : List Item = values_of c.self.inside.indexes.arrivals.entries in
    let new : is_in c.args.item.id old ≡ false =
    ap (λ (w : WorkList). is_in c.args.item.id w.items) c.self.view_is ∙ c.requires in
    record {
      bounded = c.self.invariant.bounded;
      room = rw (c.take_first.ensures.rest, c.in_ok-add.ensures.ok)
          (omega (
            arith,
            c.self.invariant.room,
            length-without_first (old ++ c.args.item ∷ []),
            length-push old c.args.item,
          ));
      different = rw (c.take_first.ensures.rest, c.in_ok-add.ensures.ok)
          (rest_apart (old ++ c.args.item ∷ []) (push_apart old c.args.item c.self.invariant.different new));
      ranking_is = c.take_first.ensures.ranked;
    }

pub invariant_of-self-else-len-self : goal.invariant_of-self-else-len-self
invariant_of-self-else-len-self c =
    let old : List Item = values_of c.self.inside.indexes.arrivals.entries in
    let new : is_in c.args.item.id old ≡ false =
    ap (λ (w : WorkList). is_in c.args.item.id w.items) c.self.view_is ∙ c.requires in
    record {
      bounded = c.self.invariant.bounded;
      room = omega (
        arith,
        c.if-len-self.false,
        c.len.ensures.len,
        length-map c.add.new.self.arrivals.entries (λ (e : ℕ × Item). e.1),
      );
      different = rw c.in_ok-add.ensures.ok (push_apart old c.args.item c.self.invariant.different new);
      ranking_is = c.in_ok-add.ensures.ranked;
    }

pub returns-then-len-self-clause-left : goal.returns-then-len-self-clause-left
returns-then-len-self-clause-left c =
    let old : List Item = values_of c.self.inside.indexes.arrivals.entries in
    let full : nat_eq (length old) c.self.inside.capacity ≡ true =
    grind (
      arith,
      nat_tests,
      c.if-len-self.true,
      c.len.ensures.len,
      c.self.invariant.room,
      length-push old c.args.item,
      ap (λ (xs : List Item). length xs) c.in_ok-add.ensures.ok,
      length-map c.add.new.self.arrivals.entries (λ (e : ℕ × Item). e.1),
    ) in
    let some : 1 ≤ length old = grind (arith, nat_tests, full, c.self.invariant.bounded.0) in
    c.take_first.ensures.first
    ∙ ap (λ (xs : List Item). slice_get xs 0) c.in_ok-add.ensures.ok
    ∙ first-push old c.args.item some
    ∙ ap (λ b. if b then slice_get old 0 else None) (sym full)
    ∙ ap (λ (w : WorkList). if nat_eq (length w.items) w.capacity then slice_get w.items 0 else None) c.self.view_is
