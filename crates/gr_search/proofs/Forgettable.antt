-- learnt clauses of an LBD of at least 3 are no reasons where each literal is settled, so that they may go
use Rattle.std.proofs.Common.{◌≡◌, ◌≢◌, ℕ, ◌+◌, ◌/◌, ◌<◌, Bool, false, ◌||◌, Option, None, inl, inr, List, [], ◌∷◌, map, length, take, get_or, All, Some, is_some, refl, sym, ap, ◌∙◌, subst, arith, nat_eq}
use Rattle.std.specs.FinMap as finite
use Rattle.std.proofs.lemmas.Bool.{ne_eqb, cases_eq}
use Rattle.std.proofs.lemmas.Bool.Decides.{nat_tests}
use Rattle.std.proofs.lemmas.List.{take_more}
use Rattle.std.proofs.lemmas.List.Folds.{list_any-append}
use Rattle.std.proofs.lemmas.List.Elements.{All-head, All-tail, All-take, All-map, All-weaker, Contains-get_or}
use Rattle.std.proofs.lemmas.List.Sorted.{All-permutation}
use Rattle.gr_logic.specs.declared.places.Place.{Place}
use Rattle.gr_diary.specs.States.{has}
use Rattle.gr_trail.specs.Trails.{Assigned, TrailState}
use Rattle.gr_trail.proofs.Climbing.{some-is}
use Rattle.gr_prop.specs.Bases.{BaseClause, BaseState, Clauses, IsBase, HasIdAt}
use Rattle.gr_prop.specs.BaseChanges.{IsCompacted}
use Rattle.gr_prop.proofs.TrailSets.{or-first, or-second}
use Rattle.gr_prop.proofs.Stores.{get-remove-same, get-remove-other}
use Rattle.gr_import.specs.Imports.{IsNoReason}
use Rattle.gr_import.specs.Forgetting.{Ranked, IsCandidate, AreWeakest}
use Rattle.gr_search.specs.Keeping.{IsSettled, IsKept}
use Rattle.gr_search.specs.Solvers.{IsForgettable}
use Rattle.gr_search.specs.TakingOver.{AreLeft, AreWithout}

-- ---- ids that go one by one
pub left-none : (k : Clauses) → AreLeft k k []
left-none k = record { stays = λ p c at free. at; was = λ p c at. (at, refl) }

has-more : (ids : List ℕ) (i d id : ℕ) → i < length ids
    → has id (take (i + 1) ids) ≡ (has id (take i ids) || has id (get_or ids i d ∷ []))
has-more ids i d id low =
    ap (has id) (take_more ids i d low) ∙ list_any-append (nat_eq id) (take i ids) (get_or ids i d ∷ [])

pub left-more : (k m n : Clauses) (ids : List ℕ) (i d : ℕ) → i < length ids → AreLeft k m (take i ids)
    → AreLeft m n (get_or ids i d ∷ []) → AreLeft k n (take (i + 1) ids)
left-more k m n ids i d low one two = record {
  stays = λ p c at free.
      let both = sym (has-more ids i d c.id low) ∙ free in
      two.stays p c (one.stays p c at (or-first (has c.id (take i ids)) (has c.id (get_or ids i d ∷ [])) both))
      (or-second (has c.id (take i ids)) (has c.id (get_or ids i d ∷ [])) both);
  was = λ p c at.
      let w = two.was p c at in
      let v = one.was p c w.0 in
      (v.0, has-more ids i d c.id low ∙ (λ j. v.1 j || w.1 j));
}

-- what is no reason stays none
pub unneeded-left : (b d : BaseState) (ids : List ℕ) (id : ℕ) → AreLeft b.clauses d.clauses ids → d.trail ≡ b.trail
    → IsNoReason b id → IsNoReason d id
unneeded-left b d ids id left same free p at =
    subst (λ (t : TrailState). All (λ a. a.reason ≢ Some p) t.assigned) (sym same)
    (free p (at.0, (left.was p.0 at.0 at.1).0, at.2))

-- the other clauses, at their places or moved together
pub without-compacted : (k : Clauses) (m d : BaseState) (ids : List ℕ) → AreLeft k m.clauses ids → IsCompacted m d
    → AreWithout k d.clauses ids
without-compacted k m d ids left moved = record {
  kept = λ p c at.
      let from = moved.onto p (ap is_some at) in
      let w = left.was from.0 c (sym (moved.kept from.0 p from.1) ∙ at) in
      (from.0, (w.0, w.1));
  all = λ q c at free. go c q (left.stays q c at free) (finite.get moved.moves q) refl;
}
  where
    go : (c : BaseClause) (q : ℕ) → finite.get m.clauses q ≡ Some c → (o : Option ℕ) → finite.get moved.moves q ≡ o
        → (p : ℕ) × (finite.get d.clauses p ≡ Some c)
    go c q at None e = absurd (let f = sym (ap is_some e) ∙ moved.moved q ∙ ap is_some at in cc)
    go c q at (Some p) e = (p, moved.kept q p e ∙ at)

-- ---- clauses of an LBD of at least 3
module _ (b : BaseState) (first : ℕ) (base : IsBase b) where
  -- a settled literal's reason is none of them
  apart : (a : Assigned) (is : IsSettled b.clauses a) (id : ℕ) → IsForgettable b.clauses first id → is.clause.id ≢ id
  apart a is id weak same =
      let p = base.ids is.place.0 weak.place is.clause weak.clause is.there weak.there (same ∙ sym weak.is) in
      let c : is.clause ≡ weak.clause =
      some-is is.clause weak.clause (sym is.there ∙ ap (finite.get b.clauses) p ∙ weak.there) in
      let e = ap (λ (x : BaseClause). x.lbd) c in
      let high = weak.weak in
      let low = is.low in
      omega (arith, e, high, low)

  pub weak-unneeded : (id : ℕ) → All (IsSettled b.clauses) b.trail.assigned → IsForgettable b.clauses first id
      → IsNoReason b id
  weak-unneeded id settled weak p at i d low reason =
      let a = get_or b.trail.assigned i d in
      let is = settled i d low in
      let same : is.place ≡ p = some-is is.place p (sym is.reason ∙ reason) in
      let c : is.clause ≡ at.0 =
      some-is is.clause at.0 (sym is.there ∙ ap (λ (q : Place). finite.get b.clauses q.0) same ∙ at.1) in
      apart a is id weak (ap (λ (x : BaseClause). x.id) c ∙ at.2)

  has-none : (id : ℕ) (ids : List ℕ) → All (λ i. id ≢ i) ids → has id ids ≡ false
  has-none id [] all = refl
  has-none id (i ∷ ids) all =
      ap (λ t. t || has id ids) (ne_eqb id i (All-head (λ j. id ≢ j) i ids all))
      ∙ has-none id ids (All-tail (λ j. id ≢ j) i ids all)

  pub settled-left : (n : Clauses) (ids : List ℕ) (a : Assigned) → All (IsForgettable b.clauses first) ids
      → AreLeft b.clauses n ids → IsSettled b.clauses a → IsSettled n a
  settled-left n ids a weak left is = record {
    ground = is.ground;
    place = is.place;
    clause = is.clause;
    reason = is.reason;
    there = left.stays is.place.0 is.clause is.there
        (has-none is.clause.id ids
        (All-weaker (IsForgettable b.clauses first) (λ i. is.clause.id ≢ i) (apart a is) ids weak));
    unit = is.unit;
    low = is.low;
  }

  pub kept-left : (vars s : ℕ) (present : List Bool) (n : Clauses) (ids : List ℕ)
      → All (IsForgettable b.clauses first) ids → AreLeft b.clauses n ids
      → IsKept vars b.clauses b.trail s present → IsKept vars n b.trail s present
  kept-left vars s present n ids weak left kept = record {
    sized = kept.sized;
    few = kept.few;
    known = kept.known;
    undecided = kept.undecided;
    there = kept.there;
    each = λ i d low. settled-left n ids (get_or (take s b.trail.assigned) i d) weak left (kept.each i d low);
  }

-- the weakest half are such clauses
pub weakest-forgettable : (k : Clauses) (first : ℕ) (ids : List ℕ) → AreWeakest k first ids
    → All (IsForgettable k first) ids
weakest-forgettable k first ids are =
    All-permutation (IsForgettable k first)
    (map (λ (r : Ranked). r.id) (take (length are.ranked / 2) are.ranked)) ids are.half
    (All-map (IsForgettable k first) (λ (r : Ranked). r.id) (take (length are.ranked / 2) are.ranked)
    (All-take (λ (r : Ranked). IsForgettable k first r.id) (length are.ranked / 2) are.ranked
    (λ i d low.
    let r = get_or are.ranked i d in
    one r ((are.each r).0 (Contains-get_or are.ranked i d low)))))
  where
    one : (r : Ranked) → IsCandidate k first r → IsForgettable k first r.id
    one r is = record {
      place = is.place;
      clause = is.clause;
      there = is.there;
      is = sym is.id;
      learnt = (let e = is.id in let l = is.learnt in omega (arith, e, l));
      weak = is.weak;
    }

-- the clause at the id's place goes
pub left-one : (b : BaseState) (id : ℕ) (place : Place) (n : Clauses) → IsBase b → HasIdAt b.clauses id place
    → n ≡ finite.remove b.clauses place.0 → AreLeft b.clauses n (id ∷ [])
left-one b id place n base at same = record {
  stays = λ p c there free.
      ap (λ k. finite.get k p) same
      ∙ get-remove-other b.clauses place.0 p
      (λ e. apart c.id id (or-first (nat_eq c.id id) false free)
      (ap (λ (x : BaseClause). x.id)
      (some-is c at.0 (sym there ∙ ap (finite.get b.clauses) e ∙ at.1)) ∙ at.2))
      ∙ there;
  was = λ p c there.
      let m = sym (ap (λ k. finite.get k p) same) ∙ there in
      elim (cases_eq p place.0) as (λ _. (finite.get b.clauses p ≡ Some c) × (has c.id (id ∷ []) ≡ false)) [
        | inl e ↦ absurd (let gone = ap (finite.get (finite.remove b.clauses place.0)) e
            ∙ get-remove-same b.clauses place.0 in cc)
        | inr other ↦
            let old : finite.get b.clauses p ≡ Some c = sym (get-remove-other b.clauses place.0 p other) ∙ m in (
              old,
              ap (λ t. t || false) (ne_eqb c.id id (λ e. other (base.ids p place.0 c at.0 old at.1 (e ∙ sym at.2)))),
            )
      ];
}
  where
    apart : (i j : ℕ) → nat_eq i j ≡ false → i ≢ j
    apart i j e = grind (arith, nat_tests)
