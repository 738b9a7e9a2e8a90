-- the clauses of a formula that a base takes one by one
use Rattle.std.proofs.Common.{◌≡◌, ℕ, ◌+◌, ◌≤◌, ◌<◌, not, All, List, [], ◌∷◌, ◌++◌, length, take, slice_index_or, Option, Some, None, refl, sym, ap, ◌∙◌, subst, inl, inr, arith}
use Rattle.std.proofs.lemmas.List.Elements.{All-cons, All-head, All-tail, All-filter, All-nil, All-push, All-weaker}
use Rattle.std.proofs.lemmas.List.{take_more}
use Rattle.std.specs.Option.{unwrap_or}
use Rattle.std.specs.FinMap as finite
use Rattle.gr_logic.specs.Literals.{Literal, same_literal}
use Rattle.gr_logic.specs.Formulas.{VarsUpTo}
use Rattle.gr_logic.specs.NormalForms.{first_occurrences}
use Rattle.gr_logic.specs.declared.places.Place.{Place}
use Rattle.gr_prop.specs.Bases.{BaseClause, BaseState, Clauses, LacksId, empty_base}
use Rattle.gr_prop.specs.BaseChanges.{IsAdded}
use Rattle.gr_timing.proofs.Maps.{by_place, get-new, get-other}
use Rattle.gr_timing.specs.Rounds.{IsTakenUnder, IsHeld, IsTaken, HasIdsUpTo}

-- the first occurrences have no other variables
pub first-within : (vars : ℕ) (c : List Literal) → VarsUpTo vars c → VarsUpTo vars (first_occurrences c)
first-within vars [] all = all
first-within vars (l ∷ ls) all =
    All-cons Within l _ (All-head Within l ls all)
    (All-filter (λ q. not (same_literal q l)) Within (first_occurrences ls)
    (first-within vars ls (All-tail Within l ls all)))
  where
    Within : Literal → Type 0
    Within q = q.index < vars

-- an id above all others is unused
pub unused-above : (n : ℕ) (k : Clauses) → HasIdsUpTo n k → LacksId k (n + 1)
unused-above n k ids p c at is = let low = ids p c at in omega (arith, low, is)

-- a clause that comes in at a new place leaves the others
held-more : (k : Clauses) (p : ℕ) (b : BaseClause) → finite.get k p ≡ None → (c : List Literal) → IsHeld k c
    → IsHeld (finite.insert k p b) c
held-more k p b fresh c h = record {
  place = h.place;
  clause = h.clause;
  there = by_place (λ q. finite.get k q ≡ Some h.clause → finite.get (finite.insert k p b) q ≡ Some h.clause) p
      (λ bad. absurd (cc (fresh, bad))) (λ q other at. get-other k p b q other ∙ at) h.place h.there;
  literals = h.literals;
}

taken-more : (k : Clauses) (p : ℕ) (b : BaseClause) → finite.get k p ≡ None → (c : List Literal) → IsTaken k c
    → IsTaken (finite.insert k p b) c
taken-more k p b fresh c (inl trivial) = inl trivial
taken-more k p b fresh c (inr held) = inr (held-more k p b fresh c held)

ids-more : (n : ℕ) (k : Clauses) (p : ℕ) (b : BaseClause) → HasIdsUpTo n k → b.id ≡ n + 1
    → HasIdsUpTo (n + 1) (finite.insert k p b)
ids-more n k p b ids is place c at =
    by_place (λ q. finite.get (finite.insert k p b) q ≡ Some c → c.id ≤ n + 1) p
    (λ here.
    let one : b ≡ c = ap (λ (o : Option BaseClause). unwrap_or {T = BaseClause} o b)
    (sym (get-new k p b) ∙ here) in
    let own : c.id ≡ n + 1 = ap (λ (x : BaseClause). x.id) (sym one) ∙ is in
    omega (arith, own))
    (λ q other there. let low = ids q c (sym (get-other k p b q other) ∙ there) in omega (arith, low))
    place at

-- what a base has of a formula's first clauses
pub record HasTaken (b : BaseState) (vars n : ℕ) (cs : List (List Literal)) : Type 0 where
  pub vars' : b.trail.vars ≡ vars
  pub ground : b.trail.depth ≡ 0
  pub ids : HasIdsUpTo n b.clauses
  pub taken : All (IsTaken b.clauses) cs

module _ (old new : BaseState) (vars n : ℕ) (cs : List (List Literal)) (c : List Literal) (has : HasTaken old vars n cs)
  where
    -- the clause that came in is held
    arrived : (place : Place) → IsAdded old new (n + 1) 1 (first_occurrences c) place
        → HasTaken new vars (n + 1) (cs ++ c ∷ [])
    arrived place a = record {
      vars' = elim a.trail as (λ _. new.trail.vars ≡ vars) [
        | inl forced ↦ ap (λ t. t.vars) forced.1.1 ∙ has.vars'
        | inr rests ↦ ap (λ t. t.vars) rests.1 ∙ has.vars'
      ];
      ground = elim a.trail as (λ _. new.trail.depth ≡ 0) [
        | inl forced ↦ ap (λ t. t.depth) forced.1.1 ∙ has.ground
        | inr rests ↦ ap (λ t. t.depth) rests.1 ∙ has.ground
      ];
      ids = subst (HasIdsUpTo (n + 1)) (sym a.clauses) (ids-more n old.clauses place.0 _ has.ids refl);
      taken = All-push (IsTaken new.clauses) cs c (subst (λ k. All (IsTaken k) cs) (sym a.clauses)
          (All-weaker (IsTaken old.clauses) (IsTaken _) (taken-more old.clauses place.0 _ a.fresh) cs has.taken))
          (inr record {
            place = place.0;
            clause = _;
            there = ap (λ k. finite.get k place.0) a.clauses ∙ get-new old.clauses place.0 _;
            literals = refl;
          });
    }

    -- one more clause was handed to the base
    taken-next : IsTakenUnder old new (n + 1) c → HasTaken new vars (n + 1) (cs ++ c ∷ [])
    taken-next (inl same) = subst (λ b. HasTaken b vars (n + 1) (cs ++ c ∷ [])) (sym same.1) record {
      vars' = has.vars';
      ground = has.ground;
      ids = λ p d at. let low = has.ids p d at in omega (arith, low);
      taken = All-push (IsTaken old.clauses) cs c has.taken (inl same.0);
    }
    taken-next (inr came) = arrived came.0 came.1

-- the clauses up to the next one
pub taken-front : (old new : BaseState) (vars n id : ℕ) (cs : List (List Literal)) (c : List Literal)
    → (id ≡ n) × HasTaken old vars n (take n cs) → n < length cs → c ≡ slice_index_or cs n c
    → IsTakenUnder old new (id + 1) c → HasTaken new vars (n + 1) (take (n + 1) cs)
taken-front old new vars n id cs c has within is came =
    subst (HasTaken new vars (n + 1))
    (ap (λ d. take n cs ++ d ∷ []) is ∙ sym (take_more cs n c within))
    (taken-next old new vars n (take n cs) c has.1 (subst (λ i. IsTakenUnder old new (i + 1) c) has.0 came))

-- no clause was handed to a new base
pub taken-none : (vars : ℕ) → HasTaken (empty_base vars) vars 0 []
taken-none vars = record {
  vars' = refl;
  ground = refl;
  ids = λ p b at. absurd (cc (finite.get-empty _ p, at));
  taken = All-nil _;
}
