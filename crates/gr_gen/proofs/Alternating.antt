-- values that alternate round a ring
use Rattle.std.proofs.Common.{◌≡◌, ◌<◌, ◌≤◌, ◌+◌, ◌-◌, ◌*◌, ◌/◌, ◌%◌, ℕ, suc, zero, Bool, true, false, not, ◌||◌, List, [], ◌∷◌, refl, ap, ◌∙◌, arith}
use Rattle.std.specs.Prelude.{IsTrue}
use Rattle.std.proofs.lemmas.List.Elements.{All-head, All-tail}
use Rattle.gr_logic.specs.Truth.{Meets, MeetsAll, IsUnsatisfiable, value_of}
use Rattle.gr_gen.specs.OddRings.{is, is_not, differ, chain, ring}
use Rattle.gr_gen.proofs.Counting.{all-front, all-back, all-flat}

-- one of the two is true, and one is false
values : (u v : Bool) → IsTrue (u || (v || false)) → IsTrue (not u || (not v || false)) → v ≡ not u
values true true one other = absurd (cc)
values true false one other = refl
values false true one other = refl
values false false one other = absurd (cc)

value-differs : (a : List Bool) (i j : ℕ) → MeetsAll a (differ i j) → value_of a j ≡ not (value_of a i)
value-differs a i j all =
    values (value_of a i) (value_of a j)
    (All-head (Meets a) (is i ∷ is j ∷ []) ((is_not i ∷ is_not j ∷ []) ∷ []) all)
    (All-head (Meets a) (is_not i ∷ is_not j ∷ []) []
    (All-tail (Meets a) (is i ∷ is j ∷ []) ((is_not i ∷ is_not j ∷ []) ∷ []) all))

not-twice : (b : Bool) → not (not b) ≡ b
not-twice true = refl
not-twice false = refl

not-its-negation : (b : Bool) → b ≡ not b → ⊥
not-its-negation true e = absurd (cc)
not-its-negation false e = absurd (cc)

module _ (n : ℕ) (a : List Bool) (all : MeetsAll a (ring n).clauses) where
  next-differs : (k : ℕ) → k < n - 1 → value_of a (k + 1) ≡ not (value_of a k)
  next-differs k below =
      value-differs a k (k + 1)
      (all-flat (Meets a) (λ i. differ i (i + 1)) 0 (n - 1) k k
      (all-front (Meets a) (chain (n - 1)) (differ (n - 1) 0) all) below (omega arith))

  -- each other variable has the value of the first
  even-is-first : (half k : ℕ) → k ≡ 2 * half → k ≤ n - 1 → value_of a k ≡ value_of a 0
  even-is-first zero k even below = let none : k ≡ 0 = omega arith in ap (value_of a) none
  even-is-first (suc half) k even below =
      let end : k ≡ k - 2 + 1 + 1 = omega arith in
      ap (value_of a) end ∙ next-differs (k - 2 + 1) (omega arith)
      ∙ ap not (next-differs (k - 2) (omega arith)) ∙ not-twice (value_of a (k - 2))
      ∙ even-is-first half (k - 2) (omega arith) (omega arith)

  last-differs : value_of a 0 ≡ not (value_of a (n - 1))
  last-differs = value-differs a (n - 1) 0 (all-back (Meets a) (chain (n - 1)) (differ (n - 1) 0) all)

-- in an odd ring the last variable has the value of the first, from which it differs
pub odd-ring-is-unsatisfiable : (n : ℕ) → n % 2 ≡ 1 → IsUnsatisfiable (ring n).clauses
odd-ring-is-unsatisfiable n odd a all =
    let even : n - 1 ≡ 2 * (n / 2) = omega arith in
    not-its-negation (value_of a 0)
    (last-differs n a all ∙ ap not (even-is-first n a all (n / 2) (n - 1) even (omega arith)))
