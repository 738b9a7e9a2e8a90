-- a trail of forced literals is part of the closure, and all of it where it is closed
use Rattle.std.proofs.Common.{◌≡◌, ℕ, Bool, true, false, ◌||◌, List, [], ◌∷◌, ◌++◌, map, Option, Some, None, refl, sym, ap, ◌∙◌, subst, inl, inr, nat_le, is_none, if◌then◌else◌, arith, ◌<◌}
use Rattle.std.specs.List.{filter}
use Rattle.gr_logic.specs.Literals.{Literal, negation, same_literal}
use Rattle.gr_logic.specs.Rup.{LiteralSet, members, with_literal}
use Rattle.gr_logic.specs.Closure.{ClauseFamily, IsWithin, IsClosedUnder, InClosure, DerivesConflict, no_literals}
use Rattle.gr_logic.specs.declared.places.Place.{Place}
use Rattle.gr_logic.proofs.Sound.{same_literal-is}
use Rattle.gr_logic.proofs.SameLiteral.{same_literal-itself, members-first, or-true}
use Rattle.gr_logic.proofs.Closures.{Forces-within}
use Rattle.gr_trail.specs.Trails.{Assigned, true_in, up_to, Climbs}
use Rattle.gr_prop.specs.Bases.{decisions, IsFoundedBy, AreFounded, IsUnitClosure}
use Rattle.gr_prop.specs.Watching.{IsConsistent}
use Rattle.gr_prop.proofs.TrailSets.{none-up_to, or-none}
use Rattle.std.proofs.lemmas.Bool.Decides.{nat_tests}

with_literal-within : (before set : LiteralSet) (l : Literal) → IsWithin before set → set l ≡ true → IsWithin
    (with_literal before l) set
with_literal-within before set l within one q e =
    elim (same_literal q l) as (λ b. same_literal q l ≡ b → (b || before q) ≡ true → set q ≡ true) [
      | true ↦ λ same _. ap set (same_literal-is q l same) ∙ one
      | false ↦ λ _ rest. within q rest
    ] refl e

-- a closed set that has the decisions has the trail
founded-within : (k : ClauseFamily) (before set : LiteralSet) (xs : List Assigned) → IsWithin before set →
    IsClosedUnder k set
    → AreFounded k before xs → IsWithin (members (decisions xs)) set → IsWithin (true_in xs) set
founded-within k before set [] within closed founded given q e = absurd (cc)
founded-within k before set (x ∷ xs) within closed founded given q e =
    let first : set x.lit ≡ true = head x.reason founded.0 (λ none. given x.lit
    (rw none (rw (same_literal-itself x.lit) refl))) in
    elim (same_literal q x.lit) as (λ b. same_literal q x.lit ≡ b → (b || true_in xs q) ≡ true → set q ≡ true) [
      | true ↦ λ same _. ap set (same_literal-is q x.lit same) ∙ first
      | false ↦ λ _ rest. founded-within k (with_literal before x.lit) set xs
          (with_literal-within before set x.lit within first) closed
          founded.1 (λ l m. given l (more (is_none x.reason) l m)) q rest
    ] refl e
  where
    head : (r : Option Place) → IsFoundedBy k before x.lit r → (is_none r ≡ true → set x.lit ≡ true) → set x.lit ≡ true
    head None f none = none refl
    head (Some p) f none = closed _ f.0 x.lit f.1.0 (Forces-within before set f.0 x.lit within f.1.1)

    more : (b : Bool) (l : Literal) → members (map (λ y. y.lit) (filter (λ y. is_none y.reason) xs)) l ≡ true
        → members (map (λ y. y.lit) (if b then x ∷ filter (λ y. is_none y.reason) xs else filter
        (λ y. is_none y.reason) xs)) l ≡ true
    more true l m = rw m (or-true (same_literal l x.lit))
    more false l m = m

-- each literal of the trail is derived
pub founded-derived : (k : ClauseFamily) (xs : List Assigned) → AreFounded k no_literals xs → (l : Literal) → true_in
    xs l ≡ true
    → InClosure k (members (decisions xs)) l
founded-derived k xs founded l e set within closed =
    founded-within k no_literals set xs (λ q h. absurd (cc)) closed founded within l e

pub decided-true : (xs : List Assigned) → IsWithin (members (decisions xs)) (true_in xs)
decided-true [] q e = e
decided-true (x ∷ xs) q e = step (is_none x.reason) (same_literal q x.lit) (true_in xs q) (decided-true xs q) e
  where
    step : (b s t : Bool) → (members (map (λ y. y.lit) (filter (λ y. is_none y.reason) xs)) q ≡ true → t ≡ true)
        → members (map (λ y. y.lit) (if b then x ∷ filter (λ y. is_none y.reason) xs else filter
        (λ y. is_none y.reason) xs)) q ≡ true
        → (same_literal q x.lit || t) ≡ true
    step true s t rest m = either (same_literal q x.lit) _ t m rest
      where
        either : (s m t : Bool) → (s || m) ≡ true → (m ≡ true → t ≡ true) → (s || t) ≡ true
        either true m t e f = refl
        either false m t e f = f e
    step false s t rest m = rw (rest m) (or-true (same_literal q x.lit))

-- a trail of forced literals that is closed is exactly the closure of its decisions
pub closed-is : (k : ClauseFamily) (xs : List Assigned) → AreFounded k no_literals xs → IsClosedUnder k (true_in xs)
    → IsConsistent xs
    → ((i : ℕ) → k i ≡ Some no_literals → ⊥) → IsUnitClosure k (decisions xs) xs
closed-is k xs founded closed consistent none = record {
  closure = λ l. (founded-derived k xs founded l, back l);
  no_conflict = conflict;
}
  where
    back : (l : Literal) → InClosure k (members (decisions xs)) l → true_in xs l ≡ true
    back l in' = in' (true_in xs) (decided-true xs) closed

    conflict : DerivesConflict k (members (decisions xs)) → ⊥
    conflict (inl two) = consistent two.0 (back two.0 two.1.0) (back (negation two.0) two.1.1)
    conflict (inr one) = none one.0 one.1

-- a clause whose literals are all false is a conflict
pub falsified-derives : (k : ClauseFamily) (xs : List Assigned) (place : ℕ) (c : List Literal) → AreFounded k
    no_literals xs
    → k place ≡ Some (members c) → ((q : Literal) → members c q ≡ true → true_in xs (negation q) ≡ true)
    → DerivesConflict k (members (decisions xs))
falsified-derives k xs place [] founded is falses = inr (place, is)
falsified-derives k xs place (l ∷ ls) founded is falses =
    inl (
      l,
      (
        (λ set within closed. closed place (members (l ∷ ls)) l is record {
          has = members-first l ls;
          others = λ q m _. founded-derived k xs founded (negation q) (falses q m) set within closed;
        }),
        founded-derived k xs founded (negation l) (falses l (members-first l ls)),
      ),
    )

-- ---- a trail that grows or goes back is still one of forced literals
or-swap : (a b c : Bool) → ((a || b) || c) ≡ (b || (a || c))
or-swap true true c = refl
or-swap true false c = refl
or-swap false true c = refl
or-swap false false c = refl

founded-by-within : (k : ClauseFamily) (one other : LiteralSet) (l : Literal) (r : Option Place) → IsWithin one other
    → IsFoundedBy k one l r → IsFoundedBy k other l r
founded-by-within k one other l None within f = tt
founded-by-within k one other l (Some p) within f = (f.0, (f.1.0, Forces-within one other f.0 l within f.1.1))

-- one more, founded in what is known
founded-after : (k : ClauseFamily) (before known : LiteralSet) (xs : List Assigned) (x : Assigned) → AreFounded k
    before xs
    → IsWithin known (λ q. true_in xs q || before q) → IsFoundedBy k known x.lit x.reason → AreFounded k before
    (xs ++ x ∷ [])
founded-after k before known [] x f within new = (founded-by-within k known before x.lit x.reason within new, tt)
founded-after k before known (y ∷ ys) x f within new = (
  f.0,
  founded-after k (with_literal before y.lit) known ys x f.1
      (λ q e. sym (or-swap (same_literal q y.lit) (true_in ys q) (before q)) ∙ within q e) new,
)

pub founded-push : (k : ClauseFamily) (xs : List Assigned) (x : Assigned) → AreFounded k no_literals xs
    → IsFoundedBy k (true_in xs) x.lit x.reason → AreFounded k no_literals (xs ++ x ∷ [])
founded-push k xs x f new = founded-after k no_literals (true_in xs) xs x f (λ q e. or-none (true_in xs q) ∙ e) new

pub founded-up_to : (k : ClauseFamily) (b level : ℕ) (before : LiteralSet) (xs : List Assigned) (depth : ℕ) → Climbs
    level xs depth
    → AreFounded k before xs → AreFounded k before (up_to b xs)
founded-up_to k b level before [] depth c f = tt
founded-up_to k b level before (x ∷ xs) depth c f =
    elim (nat_le x.level b) as (λ t. nat_le x.level b ≡ t → AreFounded k before
    (if t then x ∷ up_to b xs else up_to b xs)) [
      | true ↦ λ _. (f.0, founded-up_to k b x.level (with_literal before x.lit) xs depth c.1 f.1)
      | false ↦ λ high. subst (AreFounded k before)
          (sym (none-up_to b x.level xs depth (let v : b < x.level = grind (arith, nat_tests) in v) c.1)) tt
    ] refl

-- no reason is one of these places
abbrev pub HaveNoReason : (Place → Type 0) → List Assigned → Type 0
HaveNoReason free [] = Unit {0}
HaveNoReason free (x ∷ xs) = ((p : Place) → x.reason ≡ Some p → free p → ⊥) × HaveNoReason free xs

-- founded in some clauses, and so in others that have the reasons
pub founded-with : (k n : ClauseFamily) (free : Place → Type 0) (before : LiteralSet) (xs : List Assigned)
    → ((place : Place) (c : LiteralSet) → (free place → ⊥) → k place.0 ≡ Some c → n place.0 ≡ Some c)
    → HaveNoReason free xs → AreFounded k before xs → AreFounded n before xs
founded-with k n free before [] keep none f = tt
founded-with k n free before (x ∷ xs) keep none f =
    (first x.reason none.0 f.0, founded-with k n free (with_literal before x.lit) xs keep none.1 f.1)
  where
    first : (r : Option Place) → ((p : Place) → r ≡ Some p → free p → ⊥) → IsFoundedBy k before x.lit r → IsFoundedBy
        n before x.lit r
    first None no' g = tt
    first (Some p) no' g = (g.0, (keep p g.0 (no' p refl) g.1.0, g.1.1))

-- founded in some clauses, and so in more
pub founded-more : (k n : ClauseFamily) (before : LiteralSet) (xs : List Assigned)
    → ((place : Place) (c : LiteralSet) → k place.0 ≡ Some c → n place.0 ≡ Some c)
    → AreFounded k before xs → AreFounded n before xs
founded-more k n before [] keep f = tt
founded-more k n before (x ∷ xs) keep f = (first x.reason f.0, founded-more k n (with_literal before x.lit) xs keep f.1)
  where
    first : (r : Option Place) → IsFoundedBy k before x.lit r → IsFoundedBy n before x.lit r
    first None g = tt
    first (Some p) g = (g.0, (keep p g.0 g.1.0, g.1.1))
