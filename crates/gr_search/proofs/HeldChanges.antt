-- what is held once the clauses of the database change
use Rattle.std.proofs.Common.{◌≡◌, ◌≢◌, ℕ, ◌<◌, Bool, true, false, cond, ◌||◌, List, [], ◌∷◌, Option, Some, None, refl, sym, ap, ◌∙◌, arith, nat_eq, ◌==◌}
use Rattle.std.specs.Option.{is_some}
use Rattle.std.specs.Cmp.{nat_cmp_total, unsigned_tied}
use Rattle.std.proofs.lemmas.Bool.Decides.{nat_tests}
use Rattle.std.specs.FinMap as finite
use Rattle.std.specs.FinSet as set
use Rattle.gr_logic.specs.Literals.{Literal}
use Rattle.gr_logic.specs.LiteralSets.{FiniteSet}
use Rattle.gr_diary.specs.States.{has}
use Rattle.gr_prop.specs.Bases.{BaseClause, Clauses, LacksId}
use Rattle.gr_prop.proofs.Stores.{get-insert-same, get-insert-other, get-remove-same, get-remove-other, same-map, by_place}
use Rattle.gr_import.specs.Imports.{IsWithout}
use Rattle.gr_search.specs.HeldClauses.{held_in}
use Rattle.gr_search.specs.Searches.{HeldClauses}
use Rattle.gr_search.specs.Tellings.{without_ids}
use Rattle.gr_search.specs.TakingOver.{IsWith, AreWithout}
use Rattle.gr_search.proofs.Holding.{HasOwnPlaces, IsHeld, same-some, held-of, of-held, held-is}

pub some-none : {X : Type 0} (o : Option X) (x : X) → o ≡ None → o ≡ Some x → ⊥
some-none o x none some = let e : false ≡ true = ap is_some (sym none ∙ some) in cc

-- what holds of the one number, and of each other one, holds
pub by-number : (P : ℕ → Type 0) (n q : ℕ) → (q ≡ n → P q) → (q ≢ n → P q) → P q
by-number P n q here there =
    elim (q == n) as (λ b. (q == n) ≡ b → P q) [
      | true ↦ λ is. here (grind (arith, nat_tests))
      | false ↦ λ is. there (λ w. let t : (q == n) ≡ true = grind (arith, nat_tests) in cc)
    ] refl

-- a clause that comes in
abbrev pub one_with : ℕ → ℕ → List Literal → BaseClause
one_with id lbd c = record { id = id; lbd = lbd; literals = set.from_list c }

-- what is there once a clause came in: it, and those before
module _ (k n : Clauses) (id lbd : ℕ) (c : List Literal) (with : IsWith k n id lbd c) where
  pub with-there : finite.get n with.place ≡ Some (one_with id lbd c)
  with-there = ap (λ x. finite.get x with.place) with.added ∙ get-insert-same k with.place (one_with id lbd c)

  pub with-kept : (p : ℕ) (d : BaseClause) → finite.get k p ≡ Some d → finite.get n p ≡ Some d
  with-kept p d at =
      ap (λ x. finite.get x p) with.added
      ∙ get-insert-other k with.place (one_with id lbd c) p
      (λ same. some-none (finite.get k with.place) d with.fresh (ap (finite.get k) (sym same) ∙ at))
      ∙ at

  pub with-old : (p : ℕ) (d : BaseClause) → finite.get n p ≡ Some d → p ≢ with.place → finite.get k p ≡ Some d
  with-old p d at apart =
      sym (get-insert-other k with.place (one_with id lbd c) p apart) ∙ sym (ap (λ x. finite.get x p) with.added) ∙ at

  pub with-new : (p : ℕ) (d : BaseClause) → finite.get n p ≡ Some d → p ≡ with.place → one_with id lbd c ≡ d
  with-new p d at same = same-some (one_with id lbd c) d (sym with-there ∙ ap (finite.get n) (sym same) ∙ at)

  -- it is held under its id
  pub held-with-clause : (last : ℕ) → HasOwnPlaces k → HasOwnPlaces n → LacksId k id → last < id
      → held_in last n ≡ finite.insert (held_in last k) id (set.from_list c)
  held-with-clause last own other lacks above =
      held-is last n (finite.insert (held_in last k) id (set.from_list c)) other each only
    where
      each : (p : ℕ) (d : BaseClause) → finite.get n p ≡ Some d → last < d.id
          → finite.get (finite.insert (held_in last k) id (set.from_list c)) d.id ≡ Some d.literals
      each p d at high = by-number (λ q. finite.get n q ≡ Some d
          → finite.get (finite.insert (held_in last k) id (set.from_list c)) d.id ≡ Some d.literals) with.place p
          (λ same there.
          let is = with-new p d there same in
          ap (finite.get (finite.insert (held_in last k) id (set.from_list c))) (ap (λ (x : BaseClause). x.id) (sym is))
          ∙ get-insert-same (held_in last k) id (set.from_list c)
          ∙ ap (λ (x : BaseClause). Some x.literals) is)
          (λ apart there.
          let old = with-old p d there apart in
          get-insert-other (held_in last k) id (set.from_list c) d.id (lacks p d old)
          ∙ held-of last k own p d old high) at

      only : (x : ℕ) (s : FiniteSet)
          → finite.get (finite.insert (held_in last k) id (set.from_list c)) x ≡ Some s → IsHeld last n x s
      only x s found = by-number (λ q. finite.get (finite.insert (held_in last k) id (set.from_list c)) q ≡ Some s
          → IsHeld last n q s) id x
          (λ same there. record {
            place = with.place;
            clause = one_with id lbd c;
            there = with-there;
            is = sym same;
            has = same-some (set.from_list c) s
                (sym (get-insert-same (held_in last k) id (set.from_list c))
                ∙ ap (finite.get (finite.insert (held_in last k) id (set.from_list c))) (sym same) ∙ there);
            above = omega (arith, same, above);
          })
          (λ apart there.
          let h = of-held last k x s (sym (get-insert-other (held_in last k) id (set.from_list c) x apart) ∙ there) in
          record {
            place = h.place;
            clause = h.clause;
            there = with-kept h.place h.clause h.there;
            is = h.is;
            has = h.has;
            above = h.above;
          }) found

-- an id that no clause has is not held
pub not-held : (last : ℕ) (k : Clauses) (id : ℕ) → LacksId k id → finite.get (held_in last k) id ≡ None
not-held last k id lacks = by (finite.get (held_in last k) id) refl
  where
    by : (o : Option FiniteSet) → finite.get (held_in last k) id ≡ o → finite.get (held_in last k) id ≡ None
    by None e = e
    by (Some s) e = let h = of-held last k id s e in absurd (lacks h.place h.clause h.there h.is)

-- to let go of an id that no clause has changes nothing
pub held-lacking : (last : ℕ) (k : Clauses) (id : ℕ) → LacksId k id
    → held_in last k ≡ finite.remove (held_in last k) id
held-lacking last k id lacks = same-map (held_in last k) (finite.remove (held_in last k) id)
    (by_place (λ q. finite.get (held_in last k) q ≡ finite.get (finite.remove (held_in last k) id) q) id
    (not-held last k id lacks ∙ sym (get-remove-same (held_in last k) id))
    (λ q apart. sym (get-remove-other (held_in last k) id q apart)))

-- a clause that goes out
module _ (k left : Clauses) (id len lbd : ℕ) (own : HasOwnPlaces k) (gone : IsWithout k id len left lbd) where
  pub left-old : (p : ℕ) (d : BaseClause) → finite.get left p ≡ Some d → finite.get k p ≡ Some d
  left-old p d at = by-number (λ q. finite.get left q ≡ Some d → finite.get k q ≡ Some d) gone.0.0 p
      (λ same there. absurd (some-none (finite.get left p) d
      (ap (λ x. finite.get x p) gone.4 ∙ ap (finite.get (finite.remove k gone.0.0)) same ∙ get-remove-same k gone.0.0)
      there))
      (λ apart there. sym (get-remove-other k gone.0.0 p apart) ∙ sym (ap (λ x. finite.get x p) gone.4) ∙ there) at

  pub left-kept : (p : ℕ) (d : BaseClause) → finite.get k p ≡ Some d → d.id ≢ id → finite.get left p ≡ Some d
  left-kept p d at apart =
      ap (λ x. finite.get x p) gone.4
      ∙ get-remove-other k gone.0.0 p
      (λ same. apart (ap (λ (x : BaseClause). x.id)
      (same-some d gone.1 (sym at ∙ ap (finite.get k) same ∙ gone.2)) ∙ gone.3))
      ∙ at

  pub left-apart : (p : ℕ) (d : BaseClause) → finite.get left p ≡ Some d → d.id ≢ id
  left-apart p d at same =
      let place : p ≡ gone.0.0 = own p gone.0.0 d gone.1 (left-old p d at) gone.2 (same ∙ sym gone.3) in
      some-none (finite.get left p) d
      (ap (λ x. finite.get x p) gone.4 ∙ ap (finite.get (finite.remove k gone.0.0)) place ∙ get-remove-same k gone.0.0)
      at

  pub left-own : HasOwnPlaces left
  left-own p q c d at there same = own p q c d (left-old p c at) (left-old q d there) same

  -- it is held no longer
  pub held-left : (last : ℕ) → held_in last left ≡ finite.remove (held_in last k) id
  held-left last = held-is last left (finite.remove (held_in last k) id) left-own each only
    where
      each : (p : ℕ) (d : BaseClause) → finite.get left p ≡ Some d → last < d.id
          → finite.get (finite.remove (held_in last k) id) d.id ≡ Some d.literals
      each p d at high =
          get-remove-other (held_in last k) id d.id (left-apart p d at)
          ∙ held-of last k own p d (left-old p d at) high

      only : (x : ℕ) (s : FiniteSet) → finite.get (finite.remove (held_in last k) id) x ≡ Some s → IsHeld last left x s
      only x s found = by-number (λ q. finite.get (finite.remove (held_in last k) id) q ≡ Some s
          → IsHeld last left q s) id x
          (λ same there. absurd (some-none (finite.get (finite.remove (held_in last k) id) x) s
          (ap (finite.get (finite.remove (held_in last k) id)) same ∙ get-remove-same (held_in last k) id) there))
          (λ apart there.
          let h = of-held last k x s (sym (get-remove-other (held_in last k) id x apart) ∙ there) in
          record {
            place = h.place;
            clause = h.clause;
            there = left-kept h.place h.clause h.there (λ e. apart (sym h.is ∙ e));
            is = h.is;
            has = h.has;
            above = h.above;
          }) found

-- a look-up where ids were let go
pub get-without : (h : HeldClauses) (ids : List ℕ) (q : ℕ)
    → finite.get (without_ids h ids) q ≡ cond (has q ids) None (finite.get h q)
get-without h [] q = refl
get-without h (id ∷ ids) q =
    get-without (finite.remove h id) ids q
    ∙ ap (cond (has q ids) None) (finite.get-remove nat_cmp_total h id q)
    ∙ ap (λ b. cond (has q ids) None (cond b None (finite.get h q))) (unsigned_tied q id)
    ∙ both (has q ids) (nat_eq q id)
  where
    both : (a b : Bool) → cond a None (cond b None (finite.get h q)) ≡ cond (b || a) None (finite.get h q)
    both true true = refl
    both true false = refl
    both false true = refl
    both false false = refl

-- clauses that were let go are held no longer
module _ (k n : Clauses) (ids : List ℕ) (own : HasOwnPlaces k) (other : HasOwnPlaces n)
    (gone : AreWithout k n ids) where
  pub held-without-ids : (last : ℕ) → held_in last n ≡ without_ids (held_in last k) ids
  held-without-ids last = held-is last n (without_ids (held_in last k) ids) other each only
    where
      each : (p : ℕ) (d : BaseClause) → finite.get n p ≡ Some d → last < d.id
          → finite.get (without_ids (held_in last k) ids) d.id ≡ Some d.literals
      each p d at high =
          let old = gone.kept p d at in
          get-without (held_in last k) ids d.id
          ∙ ap (λ b. cond b None (finite.get (held_in last k) d.id)) old.1.1
          ∙ held-of last k own old.0 d old.1.0 high

      out : (b : Bool) (x : ℕ) (s : FiniteSet) → has x ids ≡ b
          → cond b None (finite.get (held_in last k) x) ≡ Some s → IsHeld last n x s
      out true x s is found = absurd (some-none None s refl found)
      out false x s is found =
          let h = of-held last k x s found in
          let kept = gone.all h.place h.clause h.there (ap (λ q. has q ids) h.is ∙ is) in
          record {
            place = kept.0;
            clause = h.clause;
            there = kept.1;
            is = h.is;
            has = h.has;
            above = h.above;
          }

      only : (x : ℕ) (s : FiniteSet) → finite.get (without_ids (held_in last k) ids) x ≡ Some s → IsHeld last n x s
      only x s found = out (has x ids) x s refl (sym (get-without (held_in last k) ids x) ∙ found)
