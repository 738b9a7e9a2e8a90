-- reasons and what stands before
use Rattle.std.proofs.Common.{◌≡◌, ◌≢◌, ◌⊎◌, inl, inr, ℕ, zero, suc, ◌<◌, true, false, ◌||◌, List, [], ◌∷◌, Option, Some, None, refl, sym, ap, ◌∙◌, subst, arith}
use Rattle.std.specs.Prelude.{slice_get, IsSome, IfSome}
use Rattle.std.specs.Option.{option_map, is_some}
use Rattle.gr_logic.specs.Literals.{Literal, negation, same_literal, var_of}
use Rattle.gr_logic.specs.Rup.{LiteralSet, with_literal}
use Rattle.gr_logic.specs.Closure.{ClauseFamily, no_literals}
use Rattle.gr_logic.proofs.Sound.{same_literal-is}
use Rattle.gr_logic.specs.declared.places.Place.{Place}
use Rattle.gr_trail.specs.Trails.{Assigned, IsTrail, true_in, assigned_to}
use Rattle.gr_prop.specs.Laws.{IsEarlier}
use Rattle.gr_prop.specs.Bases.{BaseState, BaseClause, family, AreFounded, IsFoundedBy, IsBase}
use Rattle.std.specs.FinMap as finite
use Rattle.std.specs.FinSet as set
use Rattle.gr_trail.proofs.Climbing.{some-is, mapped}
use Rattle.gr_trail.proofs.Standing.{at-true, stands-at, assigned-at, one-place, is-false}

-- what holds of no assignment, and of one more with what its reason forces, holds of all
pub founded-each : (k : ClauseFamily) (P : LiteralSet → List Assigned → Type 0)
    → ((before : LiteralSet) → P before [])
    → ((before : LiteralSet) (x : Assigned) (xs : List Assigned)
    → IsFoundedBy k before x.lit x.reason
    → P (with_literal before x.lit) xs → P before (x ∷ xs))
    → (before : LiteralSet) (xs : List Assigned) → AreFounded k before xs → P before xs
founded-each k P none more before [] f = none before
founded-each k P none more before (x ∷ xs) f =
    more before x xs f.0 (founded-each k P none more (with_literal before x.lit) xs f.1)

-- the assignment stands before this place, and makes the literal true
pub record Before (xs : List Assigned) (n : ℕ) (l : Literal) : Type 0 where
  pub at : ℕ
  pub is : Assigned
  pub earlier : at < n
  pub there : slice_get xs at ≡ Some is
  pub makes : is.lit ≡ l

pub record Founded (k : ClauseFamily) (before : LiteralSet) (xs : List Assigned) (n : ℕ) (l : Literal) (place : Place)
    : Type 0 where
  pub clause : LiteralSet
  pub there : k place.0 ≡ Some clause
  pub has : clause l ≡ true
  pub others : (q : Literal) → clause q ≡ true → same_literal q l ≡ false
      → (before (negation q) ≡ true) ⊎ Before xs n (negation q)

pub founded-at : (k : ClauseFamily) (before : LiteralSet) (xs : List Assigned) (n : ℕ) (a : Assigned) (place : Place)
    → AreFounded k before xs → slice_get xs n ≡ Some a → a.reason ≡ Some place → Founded k before xs n a.lit place
founded-at k before [] n a place f e r = absurd (cc)
founded-at k before (x ∷ xs) zero a place f e r =
    let is : x ≡ a = some-is x a e in
    let g : IsFoundedBy k before a.lit a.reason = subst (λ
    (y : Assigned). IsFoundedBy k before y.lit y.reason) is f.0 in
    let h : IsFoundedBy k before a.lit (Some place) = subst (λ o. IsFoundedBy k before a.lit o) r g in
    record { clause = h.0; there = h.1.0; has = h.1.1.has; others = λ q c s. inl (h.1.1.others q c s) }
founded-at k before (x ∷ xs) (suc n) a place f e r =
    let rest = founded-at k (with_literal before x.lit) xs n a place f.1 e r in
    record { clause = rest.clause; there = rest.there; has = rest.has; others = λ q c s. shift q (rest.others q c s) }
  where
    shift : (q : Literal) → (with_literal before x.lit (negation q) ≡ true) ⊎ Before xs n (negation q)
        → (before (negation q) ≡ true) ⊎ Before (x ∷ xs) (suc n) (negation q)
    shift q (inr b) = inr (record {
      at = suc b.at;
      is = b.is;
      earlier = (let w = b.earlier in omega (arith, w));
      there = b.there;
      makes = b.makes;
    })
    shift q (inl w) = elim (same_literal (negation q) x.lit) as (λ b. same_literal (negation q) x.lit ≡ b
        → (b || before (negation q)) ≡ true → (before (negation q) ≡ true) ⊎ Before (x ∷ xs) (suc n) (negation q)) [
          | false ↦ λ _ g. inl g
          | true ↦ λ same _. inr (record {
            at = 0;
            is = x;
            earlier = omega arith;
            there = refl;
            makes = sym
                (same_literal-is (negation q) x.lit same);
          })
        ] refl w

from : (b : BaseState) (var : ℕ) (q : Literal) → IsTrail b.trail → (a : Assigned)
    → assigned_to b.trail.assigned var ≡ Some a → (n : ℕ) → slice_get b.trail.assigned n ≡ Some a
    → (no_literals (negation q) ≡ true) ⊎ Before b.trail.assigned n (negation q) → IsEarlier b.trail var q
from b var q is a e n f (inl w) = absurd (cc)
from b var q is a e n f (inr w) =
    let same : var_of w.is.lit ≡ var_of q = ap var_of w.makes in
    let to : assigned_to b.trail.assigned (var_of q) ≡ Some w.is =
    subst (λ v. assigned_to b.trail.assigned v ≡ Some w.is) same (assigned-at b.trail w.at w.is is w.there) in
    record {
      value = is-false b.trail q is (subst (λ (l : Literal). true_in b.trail.assigned l ≡ true) w.makes
          (at-true b.trail.assigned w.at w.is w.there));
      there = ap is_some to;
      order = λ i j p r.
          let k : i ≡ w.at = one-place b.trail i w.at w.is w.is is (p ∙ to) w.there refl in
          let m : j ≡ n = one-place b.trail j n a a is (r ∙ e) f refl in
          let low = w.earlier in
          omega (arith, k, m, low);
    }

pub earlier : (b : BaseState) (var : ℕ) (place : Place) (q : Literal) → IsBase b → IsTrail b.trail
    → option_map (λ a. a.reason) (assigned_to b.trail.assigned var) ≡ Some (Some place)
    → IfSome (family b.clauses place.0) (λ c. c q ≡ true) → var_of q ≢ var → IsEarlier b.trail var q
earlier b var place q base is r among apart =
    let a = mapped (λ (x : Assigned). x.reason) (assigned_to b.trail.assigned var) (Some place) r in
    let at = stands-at b.trail.assigned var a.0 a.1.0 in
    let f = founded-at (family b.clauses) no_literals b.trail.assigned at.0 a.0 place base.founded at.1.0 a.1.1 in
    let c : f.clause q ≡ true = subst (λ o. IfSome o (λ c. c q ≡ true)) f.there among in
    let other : same_literal q a.0.lit ≡ false = differ q a.0.lit (λ e. apart (ap var_of e ∙ at.1.1)) in
    from b var q is a.0 a.1.0 at.0 at.1.0 (f.others q c other)
  where
    differ : (q l : Literal) → (q ≡ l → ⊥) → same_literal q l ≡ false
    differ q l never = elim (same_literal q l) as (λ b. same_literal q l ≡ b → b ≡ false) [
      | false ↦ λ _. refl
      | true ↦ λ e. absurd (never (same_literal-is q l e))
    ] refl

-- a reason is a clause that is there, with the literal
pub reason-there : (b : BaseState) (var : ℕ) (o : Option Place) → IsBase b
    → option_map (λ a. a.reason) (assigned_to b.trail.assigned var) ≡ Some o
    → IfSome o (λ place. IfSome (assigned_to b.trail.assigned var) (λ a. IfSome (family b.clauses place.0)
    (λ c. c a.lit ≡ true)))
    × IfSome o (λ place. IsSome (finite.get b.clauses place.0))
reason-there b var None base r = (tt, tt)
reason-there b var (Some place) base r =
    let a = mapped (λ (x : Assigned). x.reason) (assigned_to b.trail.assigned var) (Some place) r in
    let at = stands-at b.trail.assigned var a.0 a.1.0 in
    let f = founded-at (family b.clauses) no_literals b.trail.assigned at.0 a.0 place base.founded at.1.0 a.1.1 in (
      subst (λ (q : Option Assigned). IfSome q (λ x. IfSome (family b.clauses place.0) (λ c. c x.lit ≡ true)))
          (sym a.1.0)
          (subst (λ (q : Option LiteralSet). IfSome q (λ c. c a.0.lit ≡ true)) (sym f.there) f.has),
      there (finite.get b.clauses place.0) f.clause f.there,
    )
  where
    there : (o : Option BaseClause) (c : LiteralSet) → option_map (λ
        (d : BaseClause). set.contains d.literals) o ≡ Some c → IsSome o
    there (Some d) c e = refl
    there None c e = absurd (cc)
