-- lists made from the numbers of a range
use Rattle.std.proofs.Common.{◌≡◌, ◌<◌, ◌≤◌, ◌+◌, ◌*◌, ◌⊎◌, inl, inr, ℕ, suc, zero, Bool, true, List, [], ◌∷◌, ◌++◌, map, length, sym, ap, ◌∙◌, subst, arith, All}
use Rattle.std.specs.List.{flat_map, list_any, range_with_len}
use Rattle.std.proofs.Math.Nat.{suc-mul}
use Rattle.std.proofs.lemmas.Bool.{or_cases}
use Rattle.std.proofs.lemmas.List.{flat_map_more, length-append}
use Rattle.std.proofs.lemmas.List.Concat.{flat_map-cons}
use Rattle.std.proofs.lemmas.List.Elements.{All-nil, All-cons, All-head, All-tail}
use Rattle.std.proofs.lemmas.List.FromFn.{length-map-range_with_len, get_or-map-range_with_len}

-- one number more
more : (a n j : ℕ) → a + n ≡ j → range_with_len a (suc n) ≡ range_with_len a n ++ j ∷ []
more a zero j e = let same : a ≡ j = omega arith in ap (λ k. k ∷ []) same
more a (suc n) j e = ap (λ l. a ∷ l) (more (a + 1) n j (omega arith))

module _ {X : Type 0} (P : X → Type 0) where
  pub all-front : (xs ys : List X) → All P (xs ++ ys) → All P xs
  all-front [] ys all = All-nil P
  all-front (x ∷ xs) ys all =
      All-cons P x xs (All-head P x (xs ++ ys) all) (all-front xs ys (All-tail P x (xs ++ ys) all))

  pub all-back : (xs ys : List X) → All P (xs ++ ys) → All P ys
  all-back [] ys all = all
  all-back (x ∷ xs) ys all = all-back xs ys (All-tail P x (xs ++ ys) all)

  -- what holds of each element of a range's lists holds of each element of one of them
  pub all-flat : (f : ℕ → List X) (a n i j : ℕ) → All P (flat_map f (range_with_len a n)) → i < n → a + i ≡ j
      → All P (f j)
  all-flat f a zero i j all below at = absurd (omega arith)
  all-flat f a (suc n) zero j all below at =
      let same : a ≡ j = omega arith in
      subst (λ k. All P (f k)) same
      (all-front (f a) (flat_map f (range_with_len (a + 1) n))
      (subst (All P) (flat_map-cons f a (range_with_len (a + 1) n)) all))
  all-flat f a (suc n) (suc i) j all below at =
      all-flat f (a + 1) n i j
      (all-back (f a) (flat_map f (range_with_len (a + 1) n))
      (subst (All P) (flat_map-cons f a (range_with_len (a + 1) n)) all))
      (omega arith) (omega arith)

  -- what holds of each of a range's elements
  pub all-mapped : (f : ℕ → X) (a n i j : ℕ) → All P (map f (range_with_len a n)) → i < n → a + i ≡ j → P (f j)
  all-mapped f a n i j all below at =
      subst P (get_or-map-range_with_len f a n i j (f j) below at)
      (all i (f j) (let long = length-map-range_with_len f a n in omega arith))

module _ {X : Type 0} (f : ℕ → List X) where
  -- a range's lists, and those of one number more
  pub flat_map-more : (a n j : ℕ) → a + n ≡ j
      → flat_map f (range_with_len a (n + 1)) ≡ flat_map f (range_with_len a n) ++ f j
  flat_map-more a n j at =
      let on : n + 1 ≡ suc n = omega arith in
      ap (λ k. flat_map f (range_with_len a k)) on ∙ ap (flat_map f) (more a n j at)
      ∙ sym (flat_map_more f [] (range_with_len a n) j)

  -- lists of at most k elements
  pub length-flat_map-le : (k a n : ℕ) → ((i : ℕ) → length (f i) ≤ k)
      → length (flat_map f (range_with_len a n)) ≤ n * k
  length-flat_map-le k a zero few = omega arith
  length-flat_map-le k a (suc n) few =
      let one = few a in
      let rest = length-flat_map-le k (a + 1) n few in
      let all = ap length (flat_map-cons f a (range_with_len (a + 1) n))
      ∙ length-append (f a) (flat_map f (range_with_len (a + 1) n)) in
      let times = suc-mul n k in omega arith

-- one of a range's elements passes the test
pub some-of : {X : Type 0} (test : X → Bool) (f : ℕ → X) (a n : ℕ)
    → list_any test (map f (range_with_len a n)) ≡ true → (j : ℕ) × ((j < a + n) × (test (f j) ≡ true))
some-of test f a zero none = absurd (cc)
some-of {X} test f a (suc n) some =
    pick (or_cases (test (f a)) (list_any test (map f (range_with_len (a + 1) n))) some) (some-of test f (a + 1) n)
  where
    pick : (test (f a) ≡ true) ⊎ (list_any test (map f (range_with_len (a + 1) n)) ≡ true)
        → (list_any test (map f (range_with_len (a + 1) n)) ≡ true
        → (j : ℕ) × ((j < a + 1 + n) × (test (f j) ≡ true)))
        → (j : ℕ) × ((j < a + suc n) × (test (f j) ≡ true))
    pick (inl first) rest = (a, (omega arith, first))
    pick (inr later) rest = let found = rest later in (found.0, (let low = found.1.0 in omega arith, found.1.1))
