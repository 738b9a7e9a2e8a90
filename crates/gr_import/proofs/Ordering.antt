-- the order in which clauses are forgotten
use Rattle.std.proofs.Common.{◌≡◌, ◌≢◌, ◌<◌, ◌≤◌, ◌+◌, ◌/◌, ℕ, true, false, List, [], ◌∷◌, map, take, length, get_or, inl, inr, refl, sym, ap, ◌∙◌, subst, arith, nat_eq, All, AllPairs, Contains, IsPermutation, nat_cmp}
use Rattle.std.specs.List.{IsDistinct}
use Rattle.std.specs.List.Sorted.{IsSorted}
use Rattle.std.specs.Cmp.{IsTotalOrder, nat_cmp_total, nat_eq_equiv}
use Rattle.std.specs.Ordering.{MatchOrdering, ordering_then, is_lt}
use Rattle.std.specs.declared.cmp.Ordering.{Ordering}
use Rattle.std.specs.declared.cmp.Ordering.TheVariants.{Less, Equal, Greater}
use Rattle.std.proofs.lemmas.Bool.Decides.{nat_tests}
use Rattle.std.proofs.lemmas.Cmp.{ranked, on_total, then_total, back_total}
use Rattle.std.proofs.lemmas.List.{get_or-map, length-map, take-map, get_or-take, length-take-le}
use Rattle.std.proofs.lemmas.List.Elements.{All-contains}
use Rattle.std.proofs.lemmas.List.Kept.{AllPairs-from_increasing}
use Rattle.std.proofs.lemmas.List.Sorted.{sorted_far, ranks_by, All-permutation, Contains-permutation, IsPermutation-map}
use Rattle.std.proofs.lemmas.Map.Keys.{apart_from_distinct, IsDistinct-from_apart, IsDistinct-IsPermutation}
use Rattle.gr_prop.specs.Bases.{Clauses}
use Rattle.gr_import.specs.declared.ranks.Rank.{Rank}
use Rattle.gr_import.specs.Forgetting.{Ranked, IsCandidate, GoesBefore, AreAllRanks, AreWeakest, ranked_of}

-- how ranks compare
abbrev pub rank_cmp : Rank → Rank → Ordering
rank_cmp a b =
    ordering_then (nat_cmp b.lbd.0 a.lbd.0) (ordering_then (nat_cmp b.len.0 a.len.0) (nat_cmp a.id b.id))

rank_cmp_total : IsTotalOrder rank_cmp
rank_cmp_total =
    then_total (back_total (on_total (λ (r : Rank). r.lbd.0) nat_cmp_total))
    (then_total (back_total (on_total (λ (r : Rank). r.len.0) nat_cmp_total))
    (on_total (λ (r : Rank). r.id) nat_cmp_total))

-- a rank that is not greater goes before
goes-before : (a b : Rank) → is_lt (rank_cmp b a) ≡ false → a.id ≢ b.id → GoesBefore (ranked_of a) (ranked_of b)
goes-before a b not apart =
    go (nat_cmp a.lbd.0 b.lbd.0) (nat_cmp a.len.0 b.len.0) (nat_cmp b.id a.id)
    (ranked a.lbd.0 b.lbd.0 _ refl) (ranked a.len.0 b.len.0 _ refl) (ranked b.id a.id _ refl) not
  where
    go : (r s t : Ordering) → MatchOrdering r (a.lbd.0 < b.lbd.0) (a.lbd.0 ≡ b.lbd.0) (b.lbd.0 < a.lbd.0)
        → MatchOrdering s (a.len.0 < b.len.0) (a.len.0 ≡ b.len.0) (b.len.0 < a.len.0)
        → MatchOrdering t (b.id < a.id) (b.id ≡ a.id) (a.id < b.id)
        → is_lt (ordering_then r (ordering_then s t)) ≡ false → GoesBefore (ranked_of a) (ranked_of b)
    go Less s t p q u e = absurd (cc)
    go Equal Less t p q u e = absurd (cc)
    go Equal Equal Less p q u e = absurd (cc)
    go Equal Equal Equal p q u e = absurd (apart (sym u))
    go Equal Equal Greater p q u e = inr (p, inr (q, u))
    go Equal Greater t p q u e = inr (p, inl q)
    go Greater s t p q u e = inl p

no_rank : Rank
no_rank = record { lbd = record { 0 = 0 }; len = record { 0 = 0 }; id = 0 }

id_at : (xs : List Rank) (i : ℕ) → i < length xs → get_or (map (λ x. x.id) xs) i 0 ≡ (get_or xs i no_rank).id
id_at xs i low = get_or-map (λ (x : Rank). x.id) xs i no_rank 0 low

-- in the order of the sort each goes before the later ones
in-order : (xs : List Rank) → IsSorted rank_cmp xs → IsDistinct nat_eq (map (λ x. x.id) xs)
    → AllPairs GoesBefore (map ranked_of xs)
in-order xs sorted distinct i j d low high =
    let many = length-map xs ranked_of in
    let few : j < length xs = omega (arith, high, many) in
    let first : i < length xs = omega (arith, low, few) in
    let ids = length-map xs (λ (x : Rank). x.id) in
    let other = apart_from_distinct nat_eq (map (λ x. x.id) xs) i j 0 distinct low (omega (arith, few, ids)) in
    let apart : (get_or xs i no_rank).id ≢ (get_or xs j no_rank).id =
    (λ e. let s : nat_eq (get_or (map (λ x. x.id) xs) i 0) (get_or (map (λ x. x.id) xs) j 0) ≡ true =
    (let f = id_at xs i first ∙ e ∙ sym (id_at xs j few) in grind (arith, nat_tests)) in cc) in
    subst (λ r. GoesBefore r (get_or (map ranked_of xs) j d)) (sym (get_or-map ranked_of xs i no_rank d first))
    (subst (GoesBefore (ranked_of (get_or xs i no_rank))) (sym (get_or-map ranked_of xs j no_rank d few))
    (goes-before (get_or xs i no_rank) (get_or xs j no_rank)
    (sorted_far (λ x y. is_lt (rank_cmp x y)) (ranks_by rank_cmp_total (λ x. x)) xs sorted i j no_rank
    (omega (arith, low)) few) apart))

-- the front of a list has none twice, where the list has not
front-distinct : (n : ℕ) (xs : List ℕ) → n ≤ length xs → IsDistinct nat_eq xs → IsDistinct nat_eq (take n xs)
front-distinct n xs few distinct = IsDistinct-from_apart nat_eq (take n xs) (λ i j d low high.
    let many = length-take-le n xs few in
    let b : j < n = omega (arith, high, many) in
    subst (λ v. nat_eq v (get_or (take n xs) j d) ≡ false) (sym (get_or-take n xs i d (omega (arith, low, b))))
    (subst (λ v. nat_eq (get_or xs i d) v ≡ false) (sym (get_or-take n xs j d b))
    (apart_from_distinct nat_eq xs i j d distinct low (omega (arith, b, few)))))

-- numbers that were sorted, and of which none stands twice, rise
rising-ids : (ids : List ℕ) → IsSorted nat_cmp ids → IsDistinct nat_eq ids → AllPairs (λ a b. a < b) ids
rising-ids ids sorted distinct = AllPairs-from_increasing ids (λ k low.
    let s = sorted k 0 (omega arith) low in
    let d = apart_from_distinct nat_eq ids k (k + 1) 0 distinct (omega arith) low in
    grind (arith, nat_tests))

ids-of-ranked : (xs : List Rank) → map (λ (r : Ranked). r.id) (map ranked_of xs) ≡ map (λ x. x.id) xs
ids-of-ranked [] = refl
ids-of-ranked (x ∷ xs) = ap (λ ys. x.id ∷ ys) (ids-of-ranked xs)

module _ (k : Clauses) (first : ℕ) (ranks sorted : List Rank) (all : AreAllRanks k first ranks)
    (moved : IsPermutation ranks sorted) where
  distinct : IsDistinct nat_eq (map (λ x. x.id) sorted)
  distinct =
      IsDistinct-IsPermutation nat_eq nat_eq_equiv.symm (map (λ x. x.id) ranks) (map (λ x. x.id) sorted)
      (IsPermutation-map (λ (x : Rank). x.id) ranks sorted moved) all.distinct

  is-ranked : (r : Ranked) → Contains (map ranked_of sorted) r → IsCandidate k first r
  is-ranked r has = All-contains (IsCandidate k first) (map ranked_of sorted) r each r-has
    where
      each : All (IsCandidate k first) (map ranked_of sorted)
      each i d low =
          let many = length-map sorted ranked_of in
          let few : i < length sorted = omega (arith, low, many) in
          subst (IsCandidate k first) (sym (get_or-map ranked_of sorted i no_rank d few))
          (All-permutation (λ x. IsCandidate k first (ranked_of x)) ranks sorted moved all.each i no_rank few)

      r-has : Contains (map ranked_of sorted) r
      r-has = has

  -- half of the sorted candidates are the weakest ones
  pub weakest-are : (n : ℕ) (before ids : List ℕ) → IsSorted rank_cmp sorted → n ≡ length sorted
      → before ≡ map (λ x. x.id) (take (n / 2) sorted) → IsPermutation before ids → IsSorted nat_cmp ids
      → AreWeakest k first ids
  weakest-are n before ids order many is perm rise = record {
    ranked = map ranked_of sorted;
    each = λ r. (
      is-ranked r,
      λ x. Contains-permutation (map ranked_of ranks) (map ranked_of sorted) r
          (IsPermutation-map ranked_of ranks sorted moved) (all.all r x),
    );
    order = in-order sorted order distinct;
    rising = rising-ids ids rise
        (IsDistinct-IsPermutation nat_eq nat_eq_equiv.symm before ids perm
        (subst (IsDistinct nat_eq) (take-map (λ (x : Rank). x.id) (n / 2) sorted ∙ sym is)
        (front-distinct (n / 2) (map (λ x. x.id) sorted)
        (let e = length-map sorted (λ (x : Rank). x.id) in omega (arith, many, e)) distinct)));
    half = subst (λ xs. IsPermutation xs ids) (is ∙ front) perm;
  }
    where
      front : map (λ x. x.id) (take (n / 2) sorted)
          ≡ map (λ (r : Ranked). r.id) (take (length (map ranked_of sorted) / 2) (map ranked_of sorted))
      front =
          sym (ids-of-ranked (take (n / 2) sorted))
          ∙ ap (map (λ (r : Ranked). r.id)) (sym (take-map ranked_of (n / 2) sorted))
          ∙ ap (λ m. map (λ (r : Ranked). r.id) (take (m / 2) (map ranked_of sorted)))
          (many ∙ sym (length-map sorted ranked_of))
