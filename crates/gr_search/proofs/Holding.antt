-- which clauses are held, by the clauses of a database
use Rattle.std.proofs.Common.{◌≡◌, ℕ, ◌<◌, ◌≤◌, true, false, Option, Some, None, is_some, refl, sym, ap, ◌∙◌, arith}
use Rattle.std.specs.Option.{unwrap_or}
use Rattle.std.specs.Ordering.{nat_cmp}
use Rattle.std.specs.Cmp.{nat_cmp_total}
use Rattle.std.specs.FinMap as finite
use Rattle.gr_logic.specs.LiteralSets.{FiniteSet}
use Rattle.gr_prop.specs.Bases.{BaseClause, Clauses}
use Rattle.gr_prop.proofs.Stores.{same-map}
use Rattle.gr_search.specs.HeldClauses.{held_in}
use Rattle.gr_search.specs.Searches.{HeldClauses}
use Rattle.gr_search.proofs.HeldEntries.{Found, HasOneEach, held_entries, held-entry, among-entries}

-- each id is of one place
abbrev pub HasOwnPlaces : Clauses → Type 0
HasOwnPlaces k = (p q : ℕ) (c d : BaseClause) → finite.get k p ≡ Some c → finite.get k q ≡ Some d → c.id ≡ d.id → p ≡ q

pub same-some : {X : Type 0} (x y : X) → Some x ≡ Some y → x ≡ y
same-some x y e = ap (λ o. unwrap_or o x) e

pub one-clause : (k : Clauses) → HasOwnPlaces k → (p q : ℕ) (c d : BaseClause) → finite.get k p ≡ Some c
    → finite.get k q ≡ Some d → c.id ≡ d.id → c ≡ d
one-clause k own p q c d at there same =
    same-some c d (sym at ∙ ap (finite.get k) (own p q c d at there same) ∙ there)

-- a clause of the database that is held under the id
pub record IsHeld (last : ℕ) (k : Clauses) (id : ℕ) (s : FiniteSet) : Type 0 where
  pub place : ℕ
  pub clause : BaseClause
  pub there : finite.get k place ≡ Some clause
  pub is : clause.id ≡ id
  pub has : clause.literals ≡ s
  pub above : last < id

module _ (last : ℕ) (k : Clauses) where
  by-entries : (id : ℕ) → finite.get (held_in last k) id ≡ finite.find nat_cmp id (held_entries last (finite.entries k))
  by-entries id = finite.get-from_entries nat_cmp_total (held_entries last (finite.entries k)) id

  -- a clause whose id is above is held under it
  pub held-of : HasOwnPlaces k → (p : ℕ) (c : BaseClause) → finite.get k p ≡ Some c → last < c.id
      → finite.get (held_in last k) c.id ≡ Some c.literals
  held-of own p c there above =
      by-entries c.id
      ∙ held-entry last (finite.entries k) p c (finite.entries_sorted k) one (found p c there) above
    where
      found : (q : ℕ) (d : BaseClause) → finite.get k q ≡ Some d → Found (finite.entries k) q d
      found q d at = sym (finite.get-entries k q) ∙ at

      one : HasOneEach (finite.entries k)
      one q r d e at there same =
          one-clause k own q r d e (finite.get-entries k q ∙ at) (finite.get-entries k r ∙ there) same

  -- what is held under an id is such a clause
  pub of-held : (id : ℕ) (s : FiniteSet) → finite.get (held_in last k) id ≡ Some s → IsHeld last k id s
  of-held id s held =
      let h = among-entries last (finite.entries k) id s (finite.entries_sorted k) (sym (by-entries id) ∙ held) in
      record {
        place = h.place;
        clause = h.clause;
        there = finite.get-entries k h.place ∙ h.there;
        is = h.is;
        has = h.has;
        above = h.above;
      }

  -- a map is what is held, where it has the clauses whose ids are above, and no others
  pub held-is : (m : HeldClauses) → HasOwnPlaces k
      → ((p : ℕ) (c : BaseClause) → finite.get k p ≡ Some c → last < c.id → finite.get m c.id ≡ Some c.literals)
      → ((id : ℕ) (s : FiniteSet) → finite.get m id ≡ Some s → IsHeld last k id s)
      → held_in last k ≡ m
  held-is m own each only = same-map (held_in last k) m (λ id. by (finite.get (held_in last k) id) id refl)
    where
      there : (id : ℕ) (s : FiniteSet) → IsHeld last k id s → (n : HeldClauses)
          → ((p : ℕ) (c : BaseClause) → finite.get k p ≡ Some c → last < c.id → finite.get n c.id ≡ Some c.literals)
          → finite.get n id ≡ Some s
      there id s h n every =
          ap (finite.get n) (sym h.is)
          ∙ every h.place h.clause h.there (let a = h.above in let i = h.is in omega (arith, a, i))
          ∙ ap Some h.has

      none : (id : ℕ) (o : Option FiniteSet) → finite.get m id ≡ o → finite.get (held_in last k) id ≡ None
          → None ≡ finite.get m id
      none id None e f = sym e
      none id (Some s) e f =
          let g = there id s (only id s e) (held_in last k) (held-of own) in
          let b : false ≡ true = ap is_some (sym f ∙ g) in absurd (cc)

      by : (o : Option FiniteSet) (id : ℕ) → finite.get (held_in last k) id ≡ o
          → finite.get (held_in last k) id ≡ finite.get m id
      by (Some s) id e = e ∙ sym (there id s (of-held id s e) m each)
      by None id e = e ∙ none id (finite.get m id) refl e

-- only clauses of the formula: nothing is held
pub held-nothing : (last : ℕ) (k : Clauses)
    → ((p : ℕ) (c : BaseClause) → finite.get k p ≡ Some c → c.id ≤ last) → held_in last k ≡ finite.empty
held-nothing last k low = same-map (held_in last k) finite.empty
    (λ id. none id (finite.get (held_in last k) id) refl ∙ sym (finite.get-empty nat_cmp id))
  where
    none : (id : ℕ) (o : Option FiniteSet) → finite.get (held_in last k) id ≡ o → finite.get (held_in last k) id ≡ None
    none id None e = e
    none id (Some s) e =
        let h = of-held last k id s e in
        let l = low h.place h.clause h.there in
        let a = h.above in let i = h.is in absurd (omega (arith, l, a, i))
