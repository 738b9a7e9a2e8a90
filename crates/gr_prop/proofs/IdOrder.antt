-- ids in order
use Rattle.std.proofs.Common.{◌≡◌, ℕ, ◌+◌, Bool, true, false, cond, List, [], ◌∷◌, Some, IsSome, nat_eq, zero, suc, refl, sym, ap, subst, arith, Contains, IsPermutation, nat_cmp, Result, Ok, Err}
use Rattle.std.specs.Map.{lookup, keys_of}
use Rattle.std.specs.Option.{is_some}
use Rattle.std.specs.Result.{IfOk}
use Rattle.std.specs.List.{IsDistinct}
use Rattle.std.specs.List.Sorted.{IsSorted, IsStrictlyIncreasing}
use Rattle.std.specs.FinMap as finite
use Rattle.std.proofs.lemmas.Bool.Decides.{nat_tests}
use Rattle.std.proofs.lemmas.List.Kept.{AllPairs-from_increasing}
use Rattle.std.proofs.lemmas.List.Sorted.{Contains-permutation, IsPermutation-sym}
use Rattle.std.proofs.lemmas.Map.Keys.{IsDistinct-IsPermutation, apart_from_distinct}
use Rattle.gr_logic.specs.declared.places.Place.{Place}
use Rattle.gr_prop.specs.Ascending.{AreKeysOf}
use Rattle.gr_prop.proofs.IdEntries.{get-entries, flip}

-- sorted and without repeats, numbers rise
rising : (xs : List ℕ) → IsSorted nat_cmp xs → IsDistinct nat_eq xs → IsStrictlyIncreasing xs
rising xs sorted apart k low =
    let s = sorted k 0 (omega arith) low in
    let d = apart_from_distinct nat_eq xs k (k + 1) 0 apart (omega arith) low in
    grind (arith, nat_tests)

-- a key is looked up
key-there : (es : List (ℕ × Place)) (id : ℕ) → Contains (keys_of es) id → IsSome (lookup (nat_eq id) es)
key-there [] id c = absurd (let h = c.1 in omega arith)
key-there (e ∷ es) id (zero, low, is) =
    let same : nat_eq id e.0 ≡ true = grind (arith, nat_tests) in
    ap (λ b. is_some (cond b (Some e.1) (lookup (nat_eq id) es))) same
key-there (e ∷ es) id (suc k, low, is) = go (nat_eq id e.0) (key-there es id (k, omega arith, is))
  where
    go : (b : Bool) → IsSome (lookup (nat_eq id) es) → IsSome (cond b (Some e.1) (lookup (nat_eq id) es))
    go true h = refl
    go false h = h

there-key : (es : List (ℕ × Place)) (id : ℕ) → IsSome (lookup (nat_eq id) es) → Contains (keys_of es) id
there-key [] id h = absurd (cc)
there-key (e ∷ es) id h =
    elim (nat_eq id e.0) as (λ b. nat_eq id e.0 ≡ b → IsSome (cond b (Some e.1) (lookup (nat_eq id) es)) → Contains
    (keys_of (e ∷ es)) id) [
      | true ↦ λ same _. (0, omega arith, grind (arith, nat_tests))
      | false ↦ λ _ later. let c = there-key es id later in (suc c.0, (let low = c.1 in omega arith), c.2)
    ] refl h

pub keys-are : (es : List (ℕ × Place)) (ids : List ℕ) → IsDistinct nat_eq (keys_of es) → IsPermutation (keys_of es)
    ids → IsSorted nat_cmp ids
    → AreKeysOf (finite.from_entries es) ids
keys-are es ids distinct perm sorted = record {
  rising = AllPairs-from_increasing ids (rising ids sorted (IsDistinct-IsPermutation nat_eq flip (keys_of es) ids
      perm distinct));
  each = λ id. (
    (λ c. subst IsSome (sym (get-entries es id)) (key-there es id
        (Contains-permutation ids (keys_of es) id (IsPermutation-sym (keys_of es) ids perm) c))),
    (λ h. Contains-permutation (keys_of es) ids id perm (there-key es id (subst IsSome (get-entries es id) h))),
  );
}

-- what holds of a list holds of the result that is the list
pub ok-equal : {X E : Type 0} (r : Result X E) (x : X) (P : X → Type 0) → IfOk r (λ y. y ≡ x) → P x → IfOk r P
ok-equal (Ok y) x P is p = subst P (sym is) p
ok-equal (Err e) x P is p = tt
