-- ids in ascending order, searched by halving
use Rattle.std.proofs.Common.{◌≡◌, ◌≢◌, ℕ, ◌<◌, ◌≤◌, inl, inr, List, length, Ok, Err, get_or, ap, sym, ◌∙◌, arith}
use Rattle.std.specs.List.Sorted.{IsBinarySearchResult}
use Rattle.std.specs.Ordering.{nat_cmp}
use Rattle.std.proofs.lemmas.Bool.{cases_lt}
use Rattle.std.proofs.lemmas.List.Sorted.{searched}
use Rattle.gr_check.specs.Places.{AreAscending, IsPlaceOf}

-- they do not descend
rising : (ids : List ℕ) → AreAscending ids → (i j : ℕ) → i ≤ j → j < length ids → get_or ids i 0 ≤ get_or ids j 0
rising ids up i j le lt = elim (cases_lt i j) [
  | inl before ↦ let less = up i j before lt in omega arith
  | inr behind ↦ let same : i ≡ j = omega arith in let is = ap (λ k. get_or ids k 0) same in omega arith
]

-- no two of them are equal
one_place : (ids : List ℕ) → AreAscending ids → (i j : ℕ) → i < length ids → j < length ids
    → get_or ids i 0 ≡ get_or ids j 0 → i ≡ j
one_place ids up i j i_in j_in same = elim (cases_lt i j) [
  | inl before ↦ absurd (let less = up i j before j_in in omega arith)
  | inr behind ↦ elim (cases_lt j i) [
    | inl after ↦ absurd (let less = up j i after i_in in omega arith)
    | inr ahead ↦ omega arith
  ]
]

-- the place where an id was found
pub found_at : (ids : List ℕ) (id place : ℕ) → AreAscending ids
    → IsBinarySearchResult (λ y. nat_cmp y id) ids (Ok place) → IsPlaceOf ids id place
found_at ids id place up is =
    let at = searched ids id (Ok place) is (rising ids up) in
    record {
      within = at.0;
      here = at.1;
      only = λ i lt same. one_place ids up i place lt at.0 (same ∙ sym at.1);
    }

-- an id that was not found
pub not_found : (ids : List ℕ) (id place : ℕ) → AreAscending ids
    → IsBinarySearchResult (λ y. nat_cmp y id) ids (Err place) → (i : ℕ) → i < length ids → get_or ids i 0 ≢ id
not_found ids id place up is i lt same =
    let at = searched ids id (Err place) is (rising ids up) in
    elim (cases_lt i place) [
      | inl before ↦ let less = at.1 i before in omega arith
      | inr behind ↦ let more = at.2 i behind lt in omega arith
    ]
