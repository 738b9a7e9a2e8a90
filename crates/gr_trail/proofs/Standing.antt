-- the values of literals, and where they stand
use Rattle.std.proofs.Common.{◌≡◌, ◌≢◌, ◌⊎◌, inl, inr, ℕ, zero, suc, ◌<◌, Bool, true, false, not, ◌||◌, ◌&&◌, List, [], ◌∷◌, Option, Some, None, refl, sym, ap, ◌∙◌, subst, if◌then◌else◌, nat_eq, arith, length, cond}
use Rattle.std.specs.Prelude.{AllPairs, slice_get, slice_index_or, IsSome}
use Rattle.std.specs.List.{find}
use Rattle.std.proofs.lemmas.Option.{slice_get_within, get_or_from_slice_get}
use Rattle.std.proofs.lemmas.Bool.Decides.{nat_tests}
use Rattle.gr_logic.specs.Literals.{Literal, negation, same_literal, same_sign, var_of}
use Rattle.gr_logic.proofs.Sound.{same_literal-is}
use Rattle.gr_logic.proofs.SameLiteral.{same_literal-itself, or-true}
use Rattle.gr_trail.specs.Trails.{Assigned, TrailState, IsTrail, true_in, value_in, assigned_to}
use Rattle.gr_trail.proofs.Climbing.{some-is}

-- a literal that is true is that of an assignment
pub true-at : (xs : List Assigned) (q : Literal) → true_in xs q ≡ true
    → (n : ℕ) × (a : Assigned) × (slice_get xs n ≡ Some a) × (a.lit ≡ q)
true-at [] q e = absurd (cc)
true-at (x ∷ xs) q e =
    elim (same_literal q x.lit) as (λ b. same_literal q x.lit ≡ b → (b || true_in xs q) ≡ true
    → (n : ℕ) × (a : Assigned) × (slice_get (x ∷ xs) n ≡ Some a) × (a.lit ≡ q)) [
      | true ↦ λ same _. (0, x, refl, sym (same_literal-is q x.lit same))
      | false ↦ λ _ f. let rest = true-at xs q f in (suc rest.0, rest.1, rest.2, rest.3)
    ] refl e

-- and the other way round
pub at-true : (xs : List Assigned) (n : ℕ) (a : Assigned) → slice_get xs n ≡ Some a → true_in xs a.lit ≡ true
at-true [] n a e = absurd (cc)
at-true (x ∷ xs) zero a e =
    subst (λ (y : Assigned). true_in (x ∷ xs) y.lit ≡ true) (some-is x a e)
    (ap (λ b. b || true_in xs x.lit) (same_literal-itself x.lit))
at-true (x ∷ xs) (suc n) a e =
    ap (λ b. same_literal a.lit x.lit || b) (at-true xs n a e) ∙ or-true (same_literal a.lit x.lit)

-- one variable has one assignment
pub one-place : (t : TrailState) (i j : ℕ) (a b : Assigned) → IsTrail t → slice_get t.assigned i ≡ Some a
    → slice_get t.assigned j ≡ Some b → a.lit.index ≡ b.lit.index → i ≡ j
one-place t i j a b is e f same = grind (arith, apart i j a b e f, apart j i b a f e, same)
  where
    apart : (i j : ℕ) (a b : Assigned) → slice_get t.assigned i ≡ Some a → slice_get t.assigned j ≡ Some b
        → i < j → a.lit.index ≢ b.lit.index
    apart i j a b e f low =
        let d = is.distinct i j a low (slice_get_within t.assigned j b f) in
        subst (λ (x : Assigned). x.lit.index ≢ b.lit.index) (get_or_from_slice_get t.assigned i a a e)
        (subst (λ (y : Assigned). (slice_index_or t.assigned i a).lit.index ≢ y.lit.index)
        (get_or_from_slice_get t.assigned j b a f) d)

-- what is assigned to a variable stands somewhere, and is of it
pub stands-at : (xs : List Assigned) (var : ℕ) (a : Assigned) → assigned_to xs var ≡ Some a
    → (n : ℕ) × ((slice_get xs n ≡ Some a) × (var_of a.lit ≡ var))
stands-at [] var a e = absurd (cc)
stands-at (x ∷ xs) var a e =
    elim (nat_eq (var_of x.lit) var) as (λ b. nat_eq (var_of x.lit) var ≡ b
    → cond b (Some x) (find (λ y. nat_eq (var_of y.lit) var) xs) ≡ Some a
    → (n : ℕ) × ((slice_get (x ∷ xs) n ≡ Some a) × (var_of a.lit ≡ var))) [
      | true ↦ λ v f. (0, (f, subst (λ (y : Assigned). var_of y.lit ≡ var) (some-is x a f) (grind (arith, nat_tests))))
      | false ↦ λ _ f. let rest = stands-at xs var a f in (suc rest.0, rest.1)
    ] refl e

-- what stands somewhere is assigned to its variable
pub assigned-at : (t : TrailState) (n : ℕ) (a : Assigned) → IsTrail t → slice_get t.assigned n ≡ Some a
    → assigned_to t.assigned (var_of a.lit) ≡ Some a
assigned-at t n a is e = go (assigned_to t.assigned (var_of a.lit)) refl
  where
    some : (xs : List Assigned) (n : ℕ) (a : Assigned) → slice_get xs n ≡ Some a → IsSome (assigned_to xs
        (var_of a.lit))
    some [] n a f = absurd (cc)
    some (x ∷ xs) zero a f = subst (λ (y : Assigned). IsSome (assigned_to (x ∷ xs) (var_of y.lit))) (some-is x a f)
        (grind (arith, nat_tests))
    some (x ∷ xs) (suc n) a f = later (nat_eq (var_of x.lit) (var_of a.lit)) (assigned_to xs (var_of a.lit))
        (some xs n a f)
      where
        later : (b : Bool) (o : Option Assigned) → IsSome o → IsSome (cond b (Some x) o)
        later true o h = refl
        later false o h = h

    go : (o : Option Assigned) → assigned_to t.assigned (var_of a.lit) ≡ o → assigned_to t.assigned
        (var_of a.lit) ≡ Some a
    go None f = absurd (let s = some t.assigned n a e in cc)
    go (Some b) f =
        let at = stands-at t.assigned (var_of a.lit) b f in
        let same : n ≡ at.0 = one-place t n at.0 a b is e at.1.0 (grind (arith, at.1.1)) in
        let is' : a ≡ b = some-is a b (sym e ∙ ap (slice_get t.assigned) same ∙ at.1.0) in
        f ∙ ap Some (sym is')

-- a literal whose negation is true is not true
pub not-both : (t : TrailState) (q : Literal) → IsTrail t → true_in t.assigned (negation q) ≡ true
    → true_in t.assigned q ≡ false
not-both t q is falls = elim (true_in t.assigned q) as (λ b. true_in t.assigned q ≡ b → b ≡ false) [
  | false ↦ λ _. refl
  | true ↦ λ holds.
      let one = true-at t.assigned q holds in
      let other = true-at t.assigned (negation q) falls in
      let same = one-place t one.0 other.0 one.1 other.1 is one.2 other.2 (ap (λ (l : Literal). l.index) one.3
      ∙ sym (ap (λ (l : Literal). l.index) other.3)) in
      let is' : one.1 ≡ other.1 = some-is one.1 other.1 (sym one.2 ∙ ap (slice_get t.assigned) same ∙ other.2) in
      let both : q ≡ negation q = sym one.3 ∙ ap (λ (a : Assigned). a.lit) is' ∙ other.3 in
      absurd (flips q.positive (ap (λ (l : Literal). l.positive) both))
] refl
  where
    flips : (b : Bool) → b ≡ not b → ⊥
    flips true e = cc
    flips false e = cc

pub is-false : (t : TrailState) (q : Literal) → IsTrail t → true_in t.assigned (negation q) ≡ true
    → value_in t.assigned q ≡ Some false
is-false t q is falls =
    ap (λ b. if b then Some true else (if true_in t.assigned (negation q) then Some false else None))
    (not-both t q is falls)
    ∙ ap (λ b. if b then Some false else None) falls
