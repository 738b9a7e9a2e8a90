-- what becomes of clauses, watches and a trail where clauses are moved together
use Rattle.std.proofs.Common.{◌≡◌, ℕ, ◌+◌, true, false, ◌||◌, All, List, [], ◌∷◌, map, Option, Some, None, IsSome, nat_eq, refl, sym, ap, ◌∙◌, subst, arith}
use Rattle.std.proofs.lemmas.Bool.Decides.{nat_tests}
use Rattle.std.proofs.lemmas.List.Elements.{All-head, All-tail, All-nil, All-cons}
use Rattle.std.proofs.lemmas.List.Sums.{sum_by-cons}
use Rattle.std.specs.Option.{option_map, unwrap_or, is_some}
use Rattle.std.specs.Ordering.{nat_cmp}
use Rattle.std.specs.FinMap as finite
use Rattle.gr_logic.specs.Literals.{Literal}
use Rattle.gr_logic.specs.Rup.{LiteralSet, members, with_literal}
use Rattle.gr_logic.specs.declared.places.Place.{Place}
use Rattle.gr_arena.specs.Arenas.{Stored, ArenaState, no_clause, IsCompaction}
use Rattle.gr_trail.specs.Trails.{Assigned, Climbs, level_after}
use Rattle.gr_watch.specs.declared.lists.Watch.{Watch}
use Rattle.gr_prop.specs.Bases.{clauses_in, family, IsFoundedBy, AreFounded}
use Rattle.gr_prop.specs.BaseChanges.{moved_place, moved_assigned}
use Rattle.gr_prop.specs.Compactions.{moved_watch, IsMovedFrom}
use Rattle.gr_prop.specs.Watching.{Store, lits_at, bit, count_in, IsBlocked, is_in}
use Rattle.gr_prop.proofs.Stores.{family-at, family-some}

pub moved-lit : (moves : finite.FinMap nat_cmp ℕ) (x : Assigned) → (moved_assigned moves x).lit ≡ x.lit
moved-lit moves x = refl

pub moved-level : (moves : finite.FinMap nat_cmp ℕ) (x : Assigned) → (moved_assigned moves x).level ≡ x.level
moved-level moves x = refl

pub moved-climbs : (moves : finite.FinMap nat_cmp ℕ) (level : ℕ) (xs : List Assigned) (depth : ℕ) → Climbs level xs
    depth
    → Climbs level (map (moved_assigned moves) xs) depth
moved-climbs moves level [] depth c = c
moved-climbs moves level (x ∷ xs) depth c = (c.0 ∙ same x.reason, moved-climbs moves x.level xs depth c.1)
  where
    same : (r : Option Place) → level_after level r ≡ level_after level (option_map (moved_place moves) r)
    same None = refl
    same (Some p) = refl

none-lits' : (k : Store) (q : ℕ) → (IsSome (finite.get k q) → ⊥) → lits_at k q ≡ []
none-lits' k q no' = go (finite.get k q) no'
  where
    go : (o : Option Stored) → (IsSome o → ⊥) → (unwrap_or o no_clause).lits ≡ []
    go None h = refl
    go (Some s) h = absurd (h refl)

-- the value where there is one
pub some-value : (o : Option ℕ) → IsSome o → (q : ℕ) × (o ≡ Some q)
some-value None h = absurd (cc)
some-value (Some q) h = (q, refl)

module _ (old new : ArenaState) (moves : finite.FinMap nat_cmp ℕ) (c : IsCompaction old new moves) where
  abbrev k : Store
  k = old.clauses

  abbrev n : Store
  n = new.clauses

  -- a clause's new place
  to : (p : ℕ) → IsSome (finite.get k p) → (q : ℕ) × (finite.get moves p ≡ Some q)
  to p there = some-value (finite.get moves p) (c.moved p ∙ there)

  pub moved-some : (p : ℕ) → IsSome (finite.get k p) → IsSome (finite.get moves p)
  moved-some p there = c.moved p ∙ there

  pub from-some : (p q : ℕ) → finite.get moves p ≡ Some q → IsSome (finite.get k p)
  from-some p q e = sym (c.moved p) ∙ ap is_some e

  pub place-is : (p : Place) (q : ℕ) → finite.get moves p.0 ≡ Some q → (moved_place moves p).0 ≡ q
  place-is p q e = ap (λ (o : Option ℕ). unwrap_or {T = ℕ} o p.0) e

  pub same-lits : (p q : ℕ) → finite.get moves p ≡ Some q → lits_at n q ≡ lits_at k p
  same-lits p q e = ap (λ o. (unwrap_or o no_clause).lits) (c.kept p q e)

  pub there-new : (p q : ℕ) → finite.get moves p ≡ Some q → IsSome (finite.get n q)
  there-new p q e = ap is_some (c.kept p q e) ∙ from-some p q e

  -- what holds at each moved place, and where there is nothing, holds everywhere
  pub everywhere : (P : ℕ → List Literal → Type 0) → ((p q : ℕ) → finite.get moves p ≡ Some q → P q (lits_at k p)) →
      ((q : ℕ) → (IsSome (finite.get n q) → ⊥) → P q [])
      → (q : ℕ) → P q (lits_at n q)
  everywhere P moved none q = go (finite.get n q) refl
    where
      go : (o : Option Stored) → finite.get n q ≡ o → P q (lits_at n q)
      go None e = let no' : IsSome (finite.get n q) → ⊥ = λ h. cc in subst (P q) (sym (none-lits' n q no')) (none q no')
      go (Some s) e =
          let from = c.onto q (ap is_some e) in
          subst (P q) (sym (same-lits from.0 q from.1)) (moved from.0 q from.1)

  -- ---- counts
  moved-bit : (p q : ℕ) (w : Watch) → finite.get moves p ≡ Some q → IsMovedFrom moves w → bit
      (nat_eq (moved_watch moves w).place.0 q) ≡ bit (nat_eq w.place.0 p)
  moved-bit p q w e m =
      elim (nat_eq w.place.0 p) as (λ b. nat_eq w.place.0 p ≡ b → bit (nat_eq (moved_watch moves w).place.0 q) ≡ bit
      b) [
        | true ↦ λ same.
            let is : w.place.0 ≡ p = grind (arith, nat_tests) in
            let at : (moved_watch moves w).place.0 ≡ q = place-is w.place q (ap (finite.get moves) is ∙ e) in
            let one : nat_eq (moved_watch moves w).place.0 q ≡ true = grind (arith, nat_tests) in
            ap bit one
        | false ↦ λ apart.
            elim (nat_eq (moved_watch moves w).place.0 q) as (λ t. nat_eq (moved_watch moves w).place.0 q ≡ t → bit t
            ≡ 0) [
              | true ↦ λ same.
                  let at : (moved_watch moves w).place.0 ≡ q = grind (arith, nat_tests) in
                  let own = some-value (finite.get moves w.place.0) m in
                  let back : w.place.0 ≡ p = c.apart w.place.0 p q
                  (own.1 ∙ ap Some (sym (place-is w.place own.0 own.1) ∙ at)) e in
                  absurd (let yes' : nat_eq w.place.0 p ≡ true = grind (arith, nat_tests) in cc)
              | false ↦ λ _. refl
            ] refl
      ] refl

  pub moved-count : (p q : ℕ) (list : List Watch) → finite.get moves p ≡ Some q → All (IsMovedFrom moves) list →
      count_in
      q (map (moved_watch moves) list) ≡ count_in p list
  moved-count p q [] e all = refl
  moved-count p q (w ∷ ws) e all =
      sum_by-cons (λ (x : Watch). bit (nat_eq x.place.0 q)) (moved_watch moves w) (map (moved_watch moves) ws)
      ∙ (λ i. moved-bit p q w e (All-head (IsMovedFrom moves) w ws all) i + moved-count p q ws e
      (All-tail (IsMovedFrom moves) w ws all) i)
      ∙ sym (sum_by-cons (λ (x : Watch). bit (nat_eq x.place.0 p)) w ws)

  pub moved-none : (q : ℕ) (list : List Watch) → (IsSome (finite.get n q) → ⊥) → All (IsMovedFrom moves) list → count_in
      q (map (moved_watch moves) list) ≡ 0
  moved-none q [] no' all = refl
  moved-none q (w ∷ ws) no' all =
      let rest = moved-none q ws no' (All-tail (IsMovedFrom moves) w ws all) in
      let e : count_in q (map (moved_watch moves) (w ∷ ws)) ≡ bit (nat_eq (moved_watch moves w).place.0 q) + count_in
      q (map (moved_watch moves) ws) =
      sum_by-cons (λ (x : Watch). bit (nat_eq x.place.0 q)) (moved_watch moves w) (map (moved_watch moves) ws) in
      elim (nat_eq (moved_watch moves w).place.0 q) as (λ t. nat_eq (moved_watch moves w).place.0 q ≡ t → count_in q
      (map (moved_watch moves) (w ∷ ws)) ≡ 0) [
        | true ↦ λ same.
            let at : (moved_watch moves w).place.0 ≡ q = grind (arith, nat_tests) in
            absurd (no' (subst (λ x. IsSome (finite.get n x)) at
            (target (finite.get moves w.place.0) refl (All-head (IsMovedFrom moves) w ws all))))
        | false ↦ λ apart. let f : bit (nat_eq (moved_watch moves w).place.0 q) ≡ 0 = ap bit apart in omega arith
      ] refl
    where
      target : (o : Option ℕ) → finite.get moves w.place.0 ≡ o → IsSome o → IsSome
          (finite.get n (moved_watch moves w).place.0)
      target None e h = absurd (cc)
      target (Some r) e h = subst (λ x. IsSome (finite.get n x)) (sym (place-is w.place r e)) (there-new w.place.0 r e)

  pub moved-all : (list : List Watch) → All (IsBlocked k) list → All (IsMovedFrom moves) list → All (IsBlocked n)
      (map (moved_watch moves) list)
  moved-all [] all from = All-nil (IsBlocked n)
  moved-all (w ∷ ws) all from =
      All-cons (IsBlocked n) (moved_watch moves w) (map (moved_watch moves) ws)
      (one (finite.get moves w.place.0) refl (All-head (IsMovedFrom moves) w ws from))
      (moved-all ws (All-tail (IsBlocked k) w ws all) (All-tail (IsMovedFrom moves) w ws from))
    where
      one : (o : Option ℕ) → finite.get moves w.place.0 ≡ o → IsSome o → IsBlocked n (moved_watch moves w)
      one None e h = absurd (cc)
      one (Some r) e h = ap (λ x. members (lits_at n x) w.blocker) (place-is w.place r e) ∙ ap
          (λ z. members z w.blocker) (same-lits w.place.0 r e) ∙ All-head (IsBlocked k) w ws all

  -- ---- the trail
  moved-family : (p : Place) (e : LiteralSet) → family (clauses_in k) p.0 ≡ Some e → family (clauses_in n)
      (moved_place moves p).0 ≡ Some e
  moved-family p e is =
      let some = family-some k p.0 e is in
      let own = to p.0 some.0 in
      ap (family (clauses_in n)) (place-is p own.0 own.1) ∙ family-at n own.0
      ∙ ap (option_map (λ (s : Stored). members s.lits)) (c.kept p.0 own.0 own.1) ∙ sym (family-at k p.0) ∙ is

  pub moved-founded : (before : LiteralSet) (xs : List Assigned) → AreFounded (family (clauses_in k)) before xs
      → AreFounded (family (clauses_in n)) before (map (moved_assigned moves) xs)
  moved-founded before [] f = tt
  moved-founded before (x ∷ xs) f = (head x.reason f.0, moved-founded (with_literal before x.lit) xs f.1)
    where
      head : (r : Option Place) → IsFoundedBy (family (clauses_in k)) before x.lit r → IsFoundedBy
          (family (clauses_in n)) before x.lit (option_map (moved_place moves) r)
      head None g = tt
      head (Some p) g = (g.0, (moved-family p g.0 g.1.0, g.1.1))

  -- ---- clauses that were false when they came in
  pub moved-in : (broken : List Place) (p q : ℕ) → finite.get moves p ≡ Some q → All
      (λ (b : Place). IsSome (finite.get moves b.0)) broken
      → is_in (map (moved_place moves) broken) q ≡ is_in broken p
  moved-in [] p q e all = refl
  moved-in (b ∷ bs) p q e all = λ i. one i || moved-in bs p q e
      (All-tail (λ (x : Place). IsSome (finite.get moves x.0)) b bs all) i
    where
      one : nat_eq (moved_place moves b).0 q ≡ nat_eq b.0 p
      one =
          elim (nat_eq b.0 p) as (λ t. nat_eq b.0 p ≡ t → nat_eq (moved_place moves b).0 q ≡ t) [
            | true ↦ λ same.
                let is : b.0 ≡ p = grind (arith, nat_tests) in
                let at : (moved_place moves b).0 ≡ q = place-is b q (ap (finite.get moves) is ∙ e) in
                grind (arith, nat_tests)
            | false ↦ λ apart.
                elim (nat_eq (moved_place moves b).0 q) as (λ t. nat_eq (moved_place moves b).0 q ≡ t → t ≡ false) [
                  | true ↦ λ same.
                      let at : (moved_place moves b).0 ≡ q = grind (arith, nat_tests) in
                      let own = some-value (finite.get moves b.0)
                      (All-head (λ (x : Place). IsSome (finite.get moves x.0)) b bs all) in
                      let back : b.0 ≡ p = c.apart b.0 p q (own.1 ∙ ap Some (sym (place-is b own.0 own.1) ∙ at)) e in
                      absurd (let yes' : nat_eq b.0 p ≡ true = grind (arith, nat_tests) in cc)
                  | false ↦ λ _. refl
                ] refl
          ] refl

  pub broken-from : (broken : List Place) (q : ℕ) → All (λ (b : Place). IsSome (finite.get moves b.0)) broken → is_in
      (map (moved_place moves) broken) q ≡ true
      → (p : ℕ) × (finite.get moves p ≡ Some q)
  broken-from [] q all h = absurd (cc)
  broken-from (b ∷ bs) q all h =
      elim (nat_eq (moved_place moves b).0 q) as (λ t. nat_eq (moved_place moves b).0 q ≡ t →
      (t || is_in (map (moved_place moves) bs) q) ≡ true → (p : ℕ) × (finite.get moves p ≡ Some q)) [
        | true ↦ λ same _.
            let at : (moved_place moves b).0 ≡ q = grind (arith, nat_tests) in
            let own = some-value (finite.get moves b.0) (All-head (λ (x : Place). IsSome (finite.get moves x.0)) b
            bs all) in
            (b.0, own.1 ∙ ap Some (sym (place-is b own.0 own.1) ∙ at))
        | false ↦ λ _ later. broken-from bs q (All-tail (λ (x : Place). IsSome (finite.get moves x.0)) b bs all) later
      ] refl h
