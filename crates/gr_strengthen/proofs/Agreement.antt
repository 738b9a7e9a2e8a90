-- a family that has a base's clauses and tautologies beside them has the same closures
use Rattle.std.proofs.Common.{◌≡◌, ◌⊎◌, inl, inr, ℕ, Bool, true, false, not, List, Option, Some, None, refl, sym, ap, ◌∙◌}
use Rattle.std.specs.Option.{option_map}
use Rattle.std.specs.FinMap as finite
use Rattle.std.specs.FinSet as set
use Rattle.gr_logic.specs.Literals.{Literal, negation, same_literal}
use Rattle.gr_logic.specs.Rup.{LiteralSet, members}
use Rattle.gr_logic.specs.Closure.{ClauseFamily, no_literals, IsWithin, IsPartOf, Forces, IsClosedUnder, InClosure, DerivesConflict}
use Rattle.gr_logic.proofs.Sound.{same_literal-is}
use Rattle.gr_logic.proofs.SameLiteral.{negation-negation}
use Rattle.gr_logic.proofs.Closures.{Forces-within, closure-grows}
use Rattle.gr_trail.specs.Trails.{Assigned, true_in}
use Rattle.gr_prop.specs.Bases.{BaseClause, Clauses, family, IsUnitClosure}
use Rattle.gr_strengthen.specs.Walking.{HasBothSigns, Represents}

-- a clause of the base
pub clause-there : (o : Option BaseClause) (c : LiteralSet)
    → option_map (λ (x : BaseClause). set.contains x.literals) o ≡ Some c
    → (x : BaseClause) × ((o ≡ Some x) × (set.contains x.literals ≡ c))
clause-there None c e = absurd (cc)
clause-there (Some x) c e = (x, (refl, inside e))
  where
    inside : {a b : LiteralSet} → Some a ≡ Some b → a ≡ b
    inside e = cc

-- a literal and its negation differ
pub two-signs : (x l : Literal) → x ≡ l → negation x ≡ l → ⊥
two-signs x l a b = sign x.positive (ap (λ (p : Literal). p.positive) (b ∙ sym a))
  where
    sign : (b : Bool) → not b ≡ b → ⊥
    sign true e = cc
    sign false e = cc

module _ (k : ClauseFamily) (clauses : Clauses) (is : Represents k clauses) where
  pub part : IsPartOf (family clauses) k
  part i c e =
      let f = clause-there (finite.get clauses i) c e in
      (f.0.id, is.cites i f.0 f.1.0 ∙ ap Some f.1.1)

  pub conflict-too : (given : LiteralSet) → DerivesConflict (family clauses) given → DerivesConflict k given
  conflict-too given c = (closure-grows (family clauses) k part given given (λ l e. e)).1 c

  pub closure-too : (given : LiteralSet) (l : Literal) → InClosure (family clauses) given l → InClosure k given l
  closure-too given l c = (closure-grows (family clauses) k part given given (λ l e. e)).0 l c

  module _ (given : List Literal) (assigned : List Assigned)
      (u : IsUnitClosure (family clauses) given assigned) where
    abbrev S : LiteralSet
    S = true_in assigned

    both : (l : Literal) → S l ≡ true → S (negation l) ≡ true → ⊥
    both l a b = u.no_conflict (inl (l, ((u.closure l).0 a, (u.closure (negation l)).0 b)))

    given-in : IsWithin (members given) S
    given-in q m = (u.closure q).1 (λ set within closed. within q m)

    closed-base : IsClosedUnder (family clauses) S
    closed-base i c l e forced =
        (u.closure l).1 (λ set within closed.
        closed i c l e (Forces-within S set c l (λ q s. (u.closure q).0 s set within closed) forced))

    -- a tautology forces nothing new: its two literals can't both be false
    closed-taut : (c : LiteralSet) (l : Literal) → HasBothSigns c → Forces S c l → S l ≡ true
    closed-taut c l two forced = go (same_literal two.0 l) refl (same_literal (negation two.0) l) refl
      where
        x : Literal
        x = two.0

        go : (a : Bool) → same_literal x l ≡ a → (b : Bool) → same_literal (negation x) l ≡ b → S l ≡ true
        go true e true f = absurd (two-signs x l (same_literal-is x l e) (same_literal-is (negation x) l f))
        go true e false f =
            ap S (sym (same_literal-is x l e)) ∙ ap S (sym (negation-negation x))
            ∙ forced.others (negation x) two.2 f
        go false e true f =
            ap S (sym (same_literal-is (negation x) l f)) ∙ forced.others x two.1 e
        go false e false f =
            absurd (both x (ap S (sym (negation-negation x)) ∙ forced.others (negation x) two.2 f)
            (forced.others x two.1 e))

    closed-all : IsClosedUnder k S
    closed-all i c l e forced = go (is.others i c e)
      where
        go : ((place : ℕ) × (family clauses place ≡ Some c)) ⊎ HasBothSigns c → S l ≡ true
        go (inl p) = closed-base p.0 c l p.1 forced
        go (inr two) = closed-taut c l two forced

    back : (l : Literal) → InClosure k (members given) l → S l ≡ true
    back l in' = in' S given-in closed-all

    pub same-closure : IsUnitClosure k given assigned
    same-closure = record {
      closure = λ l. ((λ e. closure-too (members given) l ((u.closure l).0 e)), back l);
      no_conflict = none;
    }
      where
        none : DerivesConflict k (members given) → ⊥
        none (inl two) = both two.0 (back two.0 two.1.0) (back (negation two.0) two.1.1)
        none (inr empty) = go (is.others empty.0 no_literals empty.1)
          where
            go : ((place : ℕ) × (family clauses place ≡ Some no_literals)) ⊎ HasBothSigns no_literals → ⊥
            go (inl p) = u.no_conflict (inr p)
            go (inr two) = absurd (let h = two.1 in cc)
