-- which clauses are held, by the list of a database's entries
use Rattle.std.specs.Prelude.{T, is_some}
use Rattle.std.proofs.Common.{◌≡◌, ◌≢◌, ℕ, ◌<◌, Bool, true, false, cond, ◌&&◌, List, [], ◌∷◌, map, Some, None, refl, sym, ap, ◌∙◌, subst, arith, nat_eq, nat_lt}
use Rattle.std.specs.List.{filter}
use Rattle.std.specs.Option.{unwrap_or}
use Rattle.std.specs.Ordering.{nat_cmp, eq_by_cmp, is_lt}
use Rattle.std.specs.Cmp.{nat_cmp_total, unsigned_tied, tied_itself}
use Rattle.std.proofs.lemmas.Bool.Decides.{nat_tests}
use Rattle.std.specs.FinMap as finite
use Rattle.std.specs.FinMap.Entries.{below_all}
use Rattle.gr_logic.specs.LiteralSets.{FiniteSet}
use Rattle.gr_prop.specs.Bases.{BaseClause}
use Rattle.gr_prop.proofs.Stores.{tied-itself, not-tied}

-- a place and its clause
abbrev pub Entry : Type 0
Entry = ℕ × BaseClause

-- a clause's id and its literals
abbrev pub named : Entry → ℕ × FiniteSet
named e = (e.1.id, e.1.literals)

-- the clauses of the entries whose ids are above this one, by their ids
abbrev pub held_entries : ℕ → List Entry → List (ℕ × FiniteSet)
held_entries last es = map named (filter (λ e. nat_lt last e.1.id) es)

-- the list has the clause at the place
abbrev pub Found : List Entry → ℕ → BaseClause → Type 0
Found es p c = finite.find nat_cmp p es ≡ Some c

abbrev pub IsOrdered : List Entry → Type 0
IsOrdered es = T (finite.is_sorted nat_cmp es)

-- clauses with one id are one
abbrev pub HasOneEach : List Entry → Type 0
HasOneEach es = (p q : ℕ) (c d : BaseClause) → Found es p c → Found es q d → c.id ≡ d.id → c ≡ d

one-half : (a b : Bool) → T (a && b) → T a
one-half true b h = tt
one-half false b h = h

other-half : (a b : Bool) → T (a && b) → T b
other-half true b h = h
other-half false b h = absurd h

same-some : {X : Type 0} (x y : X) → Some x ≡ Some y → x ≡ y
same-some x y e = ap (λ o. unwrap_or o x) e

no-some : {X : Type 0} (x : X) → None ≡ Some x → ⊥
no-some x e = let f : false ≡ true = ap is_some e in cc

tied-same : (p q : ℕ) → eq_by_cmp nat_cmp p q ≡ true → p ≡ q
tied-same p q tied = let t : nat_eq p q ≡ true = sym (unsigned_tied p q) ∙ tied in grind (arith, nat_tests)

never-below-itself : (x : ℕ) → T (is_lt (nat_cmp x x)) → ⊥
never-below-itself x h = subst (λ r. T (is_lt r)) (tied_itself nat_cmp_total x) h

-- what stands behind an entry has another place
behind-apart : (x p : ℕ) (es : List Entry) (c : BaseClause) → T (below_all nat_cmp x es) → Found es p c → p ≢ x
behind-apart x p [] c below found = absurd (no-some c found)
behind-apart x p (e ∷ es) c below found =
    elim (eq_by_cmp nat_cmp p e.0) as (λ b. eq_by_cmp nat_cmp p e.0 ≡ b
    → cond b (Some e.1) (finite.find nat_cmp p es) ≡ Some c → p ≢ x) [
      | true ↦ λ tied f same. never-below-itself x
          (subst (λ q. T (is_lt (nat_cmp x q))) (sym (tied-same p e.0 tied) ∙ same)
          (one-half (is_lt (nat_cmp x e.0)) (below_all nat_cmp x es) below))
      | false ↦ λ tied f. behind-apart x p es c
          (other-half (is_lt (nat_cmp x e.0)) (below_all nat_cmp x es) below) f
    ] refl found

module _ (e : Entry) (es : List Entry) (ordered : IsOrdered (e ∷ es)) where
  pub behind-ordered : IsOrdered es
  behind-ordered = other-half (below_all nat_cmp e.0 es) (finite.is_sorted nat_cmp es) ordered

  -- what the rest has, the whole has
  pub later-found : (p : ℕ) (c : BaseClause) → Found es p c → Found (e ∷ es) p c
  later-found p c found =
      ap (λ b. cond b (Some e.1) (finite.find nat_cmp p es))
      (not-tied p e.0 (behind-apart e.0 p es c
      (one-half (below_all nat_cmp e.0 es) (finite.is_sorted nat_cmp es) ordered) found))
      ∙ found

  pub later-one : HasOneEach (e ∷ es) → HasOneEach es
  later-one one p q c d at there same = one p q c d (later-found p c at) (later-found q d there) same

pub first-found : (e : Entry) (es : List Entry) → Found (e ∷ es) e.0 e.1
first-found e es = ap (λ b. cond b (Some e.1) (finite.find nat_cmp e.0 es)) (tied-itself e.0)

-- one more entry counts where its id is above
held-more : (last : ℕ) (e : Entry) (es : List Entry) (b : Bool) → nat_lt last e.1.id ≡ b
    → held_entries last (e ∷ es) ≡ cond b (named e ∷ held_entries last es) (held_entries last es)
held-more last e es true above =
    ap (λ b. map named (cond b (e ∷ filter (λ x. nat_lt last x.1.id) es) (filter (λ x. nat_lt last x.1.id) es))) above
held-more last e es false above =
    ap (λ b. map named (cond b (e ∷ filter (λ x. nat_lt last x.1.id) es) (filter (λ x. nat_lt last x.1.id) es))) above

-- a clause whose id is above is held under it
pub held-entry : (last : ℕ) (es : List Entry) (p : ℕ) (c : BaseClause) → IsOrdered es → HasOneEach es → Found es p c
    → last < c.id → finite.find nat_cmp c.id (held_entries last es) ≡ Some c.literals
held-entry last [] p c ordered one found above = absurd (no-some c found)
held-entry last (e ∷ es) p c ordered one found above =
    let go : Found es p c → finite.find nat_cmp c.id (held_entries last es) ≡ Some c.literals =
    (λ f. held-entry last es p c (behind-ordered e es ordered) (later-one e es ordered one) f above) in
    elim (nat_lt last e.1.id) as (λ b. nat_lt last e.1.id ≡ b
    → finite.find nat_cmp c.id (held_entries last (e ∷ es)) ≡ Some c.literals) [
      | true ↦ λ low. ap (finite.find nat_cmp c.id) (held-more last e es true low)
          ∙ by-id go (eq_by_cmp nat_cmp c.id e.1.id) refl
      | false ↦ λ low. ap (finite.find nat_cmp c.id) (held-more last e es false low)
          ∙ rest go (λ same. let t : nat_lt last c.id ≡ true = grind (arith, nat_tests) in
          let u : nat_lt last e.1.id ≡ nat_lt last c.id = ap (nat_lt last) (sym same) in cc)
    ] refl
  where
    -- the clause is the first one where their ids are one, and else stands behind it
    rest : (Found es p c → finite.find nat_cmp c.id (held_entries last es) ≡ Some c.literals) → c.id ≢ e.1.id
        → finite.find nat_cmp c.id (held_entries last es) ≡ Some c.literals
    rest go apart =
        elim (eq_by_cmp nat_cmp p e.0) as (λ b. cond b (Some e.1) (finite.find nat_cmp p es) ≡ Some c
        → finite.find nat_cmp c.id (held_entries last es) ≡ Some c.literals) [
          | true ↦ λ f. absurd (apart (ap (λ (d : BaseClause). d.id) (sym (same-some e.1 c f))))
          | false ↦ λ f. go f
        ] found

    by-id : (Found es p c → finite.find nat_cmp c.id (held_entries last es) ≡ Some c.literals) → (b : Bool)
        → eq_by_cmp nat_cmp c.id e.1.id ≡ b
        → cond (eq_by_cmp nat_cmp c.id e.1.id) (Some e.1.literals) (finite.find nat_cmp c.id (held_entries last es))
        ≡ Some c.literals
    by-id go true tied =
        ap (λ b. cond b (Some e.1.literals) (finite.find nat_cmp c.id (held_entries last es))) tied
        ∙ ap (λ (d : BaseClause). Some d.literals)
        (one e.0 p e.1 c (first-found e es) found (sym (tied-same c.id e.1.id tied)))
    by-id go false tied =
        ap (λ b. cond b (Some e.1.literals) (finite.find nat_cmp c.id (held_entries last es))) tied
        ∙ rest go (λ same. let t : nat_eq c.id e.1.id ≡ true = grind (arith, nat_tests) in
        let u = sym (unsigned_tied c.id e.1.id) ∙ tied in cc)

-- a clause of the list that is held under the id
pub record IsHeldAmong (last : ℕ) (es : List Entry) (id : ℕ) (s : FiniteSet) : Type 0 where
  pub place : ℕ
  pub clause : BaseClause
  pub there : Found es place clause
  pub is : clause.id ≡ id
  pub has : clause.literals ≡ s
  pub above : last < id

-- what is held under an id is such a clause
pub among-entries : (last : ℕ) (es : List Entry) (id : ℕ) (s : FiniteSet) → IsOrdered es
    → finite.find nat_cmp id (held_entries last es) ≡ Some s → IsHeldAmong last es id s
among-entries last [] id s ordered found = absurd (no-some s found)
among-entries last (e ∷ es) id s ordered found =
    let go : finite.find nat_cmp id (held_entries last es) ≡ Some s → IsHeldAmong last es id s =
    among-entries last es id s (behind-ordered e es ordered) in
    elim (nat_lt last e.1.id) as (λ b. nat_lt last e.1.id ≡ b → IsHeldAmong last (e ∷ es) id s) [
      | true ↦ λ low. by-id go (eq_by_cmp nat_cmp id e.1.id) refl low
          (sym (ap (finite.find nat_cmp id) (held-more last e es true low)) ∙ found)
      | false ↦ λ low. later go (sym (ap (finite.find nat_cmp id) (held-more last e es false low)) ∙ found)
    ] refl
  where
    later : (finite.find nat_cmp id (held_entries last es) ≡ Some s → IsHeldAmong last es id s)
        → finite.find nat_cmp id (held_entries last es) ≡ Some s → IsHeldAmong last (e ∷ es) id s
    later go f =
        let h = go f in
        record {
          place = h.place;
          clause = h.clause;
          there = later-found e es ordered h.place h.clause h.there;
          is = h.is;
          has = h.has;
          above = h.above;
        }

    by-id : (finite.find nat_cmp id (held_entries last es) ≡ Some s → IsHeldAmong last es id s) → (b : Bool)
        → eq_by_cmp nat_cmp id e.1.id ≡ b → nat_lt last e.1.id ≡ true
        → cond (eq_by_cmp nat_cmp id e.1.id) (Some e.1.literals) (finite.find nat_cmp id (held_entries last es))
        ≡ Some s
        → IsHeldAmong last (e ∷ es) id s
    by-id go true tied low f =
        let same : id ≡ e.1.id = tied-same id e.1.id tied in
        record {
          place = e.0;
          clause = e.1;
          there = first-found e es;
          is = sym same;
          has = same-some e.1.literals s (sym (ap (λ b. cond b (Some e.1.literals)
              (finite.find nat_cmp id (held_entries last es))) tied) ∙ f);
          above = (let t : nat_lt last id ≡ true = ap (nat_lt last) same ∙ low in grind (arith, nat_tests));
        }
    by-id go false tied low f =
        later go (sym (ap (λ b. cond b (Some e.1.literals) (finite.find nat_cmp id (held_entries last es))) tied) ∙ f)
