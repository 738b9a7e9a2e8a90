-- the clauses of a base are the cited ones
use Rattle.std.proofs.Common.{◌≡◌, ◌⊎◌, inl, inr, ℕ, ◌<◌, ◌≤◌, true, false, List, length, Option, Some, None, refl, sym, ap, ◌∙◌, subst, arith, nat_le, if◌then◌else◌}
use Rattle.std.specs.Option.{option_map}
use Rattle.std.specs.FinMap as finite
use Rattle.std.specs.FinSet as set
use Rattle.std.proofs.lemmas.Bool.Decides.{nat_tests}
use Rattle.gr_logic.specs.Literals.{Literal, negation}
use Rattle.gr_logic.specs.Formulas.{Cnf}
use Rattle.gr_logic.specs.NormalForms.{IsTautology}
use Rattle.gr_logic.specs.Rup.{LiteralSet, members}
use Rattle.gr_logic.specs.Closure.{family_of}
use Rattle.gr_prop.specs.Bases.{BaseClause, Clauses, HasId, LacksId, family}
use Rattle.gr_strengthen.specs.Families.{KeptClauses, given_clause, cited_family, clauses_above}
use Rattle.gr_strengthen.specs.Holding.{HasFormula}
use Rattle.gr_strengthen.specs.Walking.{Represents, HasBothSigns}
use Rattle.gr_strengthen.proofs.KeptMaps.{HasUniqueIds, above-some, above-get}

pub le-cases : (P : Type 0) (a b : ℕ) → (a ≤ b → P) → (b < a → P) → P
le-cases P a b low high =
    elim (nat_le a b) as (λ t. nat_le a b ≡ t → P) [
      | true ↦ λ e. low (let v : a ≤ b = grind (arith, nat_tests, e) in v)
      | false ↦ λ e. high (let v : b < a = grind (arith, nat_tests, e) in v)
    ] refl

cited-low : (f : Cnf) (kept : KeptClauses) (id : ℕ) → id ≤ length f.clauses
    → cited_family f kept id ≡ family_of (given_clause f) id
cited-low f kept id low =
    let t : nat_le id (length f.clauses) ≡ true = grind (arith, nat_tests, low) in
    ap (λ b. if b then family_of (given_clause f) id else option_map set.contains (finite.get kept id)) t

cited-high : (f : Cnf) (kept : KeptClauses) (id : ℕ) → length f.clauses < id
    → cited_family f kept id ≡ option_map set.contains (finite.get kept id)
cited-high f kept id high =
    let t : nat_le id (length f.clauses) ≡ false = grind (arith, nat_tests, high) in
    ap (λ b. if b then family_of (given_clause f) id else option_map set.contains (finite.get kept id)) t

pub some-set : (x y : LiteralSet) → Some x ≡ Some y → x ≡ y
some-set x y e = cc

mapped-set : {A : Type 0} (g : A → LiteralSet) (o : Option A) (c : LiteralSet) → option_map g o ≡ Some c
    → (a : A) × ((o ≡ Some a) × (g a ≡ c))
mapped-set g None c e = absurd (cc)
mapped-set g (Some a) c e = (a, (refl, some-set (g a) c e))

pub represents : (f : Cnf) (clauses : Clauses) → HasFormula f clauses (length f.clauses)
    → Represents (cited_family f (clauses_above (length f.clauses) clauses)) clauses
represents f clauses h = record {
  cites = λ place c at. le-cases (cited_family f (clauses_above (length f.clauses) clauses) c.id
      ≡ Some (set.contains c.literals)) c.id (length f.clauses)
      (λ low. cited-low f (clauses_above (length f.clauses) clauses) c.id low ∙ h.given place c at low)
      (λ high. cited-high f (clauses_above (length f.clauses) clauses) c.id high
      ∙ ap (option_map set.contains) (above-get (length f.clauses) clauses place c h.ids at high));
  others = λ id c e. le-cases (((place : ℕ) × (family clauses place ≡ Some c)) ⊎ HasBothSigns c) id (length f.clauses)
      (λ low. formula id c low (sym (cited-low f (clauses_above (length f.clauses) clauses) id low) ∙ e))
      (λ high. inl (kept id c (sym (cited-high f (clauses_above (length f.clauses) clauses) id high) ∙ e)));
}
  where
    kept : (id : ℕ) (c : LiteralSet) → option_map set.contains
        (finite.get (clauses_above (length f.clauses) clauses) id)
        ≡ Some c → (place : ℕ) × (family clauses place ≡ Some c)
    kept id c e =
        let m = mapped-set set.contains (finite.get (clauses_above (length f.clauses) clauses) id) c e in
        let n = above-some (length f.clauses) clauses id m.0 m.1.0 in (
          n.place,
          ap (option_map (λ (x : BaseClause). set.contains x.literals)) n.there
              ∙ ap (λ s. Some (set.contains s)) n.literals ∙ ap Some m.1.1,
        )

    formula : (id : ℕ) (c : LiteralSet) → id ≤ length f.clauses → family_of (given_clause f) id ≡ Some c
        → ((place : ℕ) × (family clauses place ≡ Some c)) ⊎ HasBothSigns c
    formula id c low e = go (h.there id m.0 low m.1.0)
      where
        m : (ls : List Literal) × ((given_clause f id ≡ Some ls) × (members ls ≡ c))
        m = mapped-set members (given_clause f id) c e

        go : IsTautology m.0 ⊎ HasId clauses id → ((place : ℕ) × (family clauses place ≡ Some c)) ⊎ HasBothSigns c
        go (inl two) = inr (
          two.0,
          ap (λ s. s two.0) (sym m.1.1) ∙ two.1,
          ap (λ s. s (negation two.0)) (sym m.1.1) ∙ two.2,
        )
        go (inr has) =
            let p = has.0 in
            let x = has.1.0 in
            inl (
              p.0,
              ap (option_map (λ (y : BaseClause). set.contains y.literals)) has.1.1
                  ∙ sym (h.given p.0 x has.1.1 (subst (λ n. n ≤ length f.clauses) (sym has.1.2) low))
                  ∙ ap (family_of (given_clause f)) has.1.2 ∙ e,
            )

-- an id above the formula's that nothing is kept under names nothing
pub uncited : (f : Cnf) (kept : KeptClauses) (id : ℕ) → length f.clauses < id → finite.get kept id ≡ None
    → cited_family f kept id ≡ None
uncited f kept id high none = cited-high f kept id high ∙ ap (option_map set.contains) none

pub unused-id : (f : Cnf) (clauses : Clauses) (id : ℕ) → HasUniqueIds clauses → length f.clauses < id
    → finite.get (clauses_above (length f.clauses) clauses) id ≡ None → LacksId clauses id
unused-id f clauses id unique high none p c at is =
    let e : finite.get (clauses_above (length f.clauses) clauses) id ≡ Some c.literals =
    ap (finite.get (clauses_above (length f.clauses) clauses)) (sym is)
    ∙ above-get (length f.clauses) clauses p c unique at (omega (arith, high, is)) in
    absurd (cc)
