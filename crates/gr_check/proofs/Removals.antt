-- ids that leave the map, one by one
use Rattle.std.proofs.Common.{◌≡◌, ℕ, ◌+◌, ◌<◌, Bool, true, false, not, ◌||◌, ◌&&◌, nat_eq, List, [], ◌∷◌, ◌++◌, Option, Some, None, refl, sym, ap, ◌∙◌, length, take, drop, get_or, add-one, drop-cons, cond, arith, if◌then◌else◌}
use Rattle.std.specs.Prelude.{is_some}
use Rattle.std.specs.List.{list_any}
use Rattle.std.specs.Ordering.{nat_cmp, eq_by_cmp}
use Rattle.std.specs.Cmp.{nat_cmp_total}
use Rattle.std.proofs.lemmas.Bool.Decides.{nat_tests}
use Rattle.std.proofs.Math.Seq.{take-suc}
use Rattle.std.proofs.lemmas.List.{take-append-drop}
use Rattle.std.proofs.lemmas.List.Folds.{list_any-append}
use Rattle.std.specs.FinMap as finite
use Rattle.gr_logic.specs.Log.{Clauses, IsNotLive, missing, without}

-- the order's test for equal numbers
tied : (q id : ℕ) → eq_by_cmp nat_cmp q id ≡ nat_eq q id
tied q id = grind (arith, nat_tests)

-- an id is found where it was there and did not leave
pub get-without : (ids : List ℕ) (live : Clauses) (q : ℕ)
    → finite.get (without live ids) q
    ≡ (if list_any (nat_eq q) ids then None else finite.get live q)
get-without [] live q = refl
get-without (id ∷ ids) live q =
    get-without ids (finite.remove live id) q
    ∙ ap (λ o. if list_any (nat_eq q) ids then None else o)
    (finite.get-remove nat_cmp_total live id q
    ∙ ap (λ b. if b then None else finite.get live q) (tied q id))
    ∙ cases (nat_eq q id) (list_any (nat_eq q) ids) (finite.get live q)
  where
    cases : {X : Type 0} (a b : Bool) (o : Option X)
        → (if b then None else (if a then None else o)) ≡ (if a || b then None else o)
    cases true true o = refl
    cases true false o = refl
    cases false b o = refl

-- the next id is there where it was there at first and is none of the earlier ones
pub has-without : (live : Clauses) (ids : List ℕ) (id : ℕ)
    → finite.contains_key (without live ids) id
    ≡ (finite.contains_key live id && not (list_any (nat_eq id) ids))
has-without live ids id =
    ap is_some (get-without ids live id) ∙ cases (list_any (nat_eq id) ids) (finite.get live id)
  where
    cases : {X : Type 0} (b : Bool) (o : Option X)
        → is_some (if b then None else o) ≡ (is_some o && not b)
    cases true None = refl
    cases true (Some x) = refl
    cases false None = refl
    cases false (Some x) = refl

-- the rest of the ids has the next one first
rest : (ids : List ℕ) (i : ℕ) → i < length ids → drop i ids ≡ get_or ids i 0 ∷ drop (i + 1) ids
rest ids i in_range = rw (add-one) (drop-cons ids i 0 in_range)

-- the ids so far end with this one
pub taken-next : (ids : List ℕ) (i : ℕ) → i < length ids
    → take (i + 1) ids ≡ take i ids ++ get_or ids i 0 ∷ []
taken-next ids i in_range = rw add-one (take-suc ids i 0 in_range)

-- without one more id at the end
without-push : (ids : List ℕ) (live : Clauses) (id : ℕ)
    → without live (ids ++ id ∷ []) ≡ finite.remove (without live ids) id
without-push [] live id = refl
without-push (x ∷ xs) live id = without-push xs (finite.remove live x) id

-- one more id is there
pub missing-next : (live : Clauses) (ids : List ℕ) (i : ℕ) → i < length ids
    → finite.contains_key (without live (take i ids)) (get_or ids i 0) ≡ true
    → missing (without live (take (i + 1) ids)) (drop (i + 1) ids)
    ≡ missing (without live (take i ids)) (drop i ids)
missing-next live ids i in_range there =
    let left = rest ids i in_range in
    let so_far = taken-next ids i in_range in
    rw (left, so_far, there, without-push) refl

-- the next id is the missing one
pub missing-here : (live : Clauses) (ids : List ℕ) (i : ℕ) → i < length ids
    → finite.contains_key (without live (take i ids)) (get_or ids i 0) ≡ false
    → missing (without live (take i ids)) (drop i ids) ≡ Some (IsNotLive (get_or ids i 0))
missing-here live ids i in_range gone = let left = rest ids i in_range in rw (left, gone) refl

-- an id that no clause had at first
pub missing-absent : (live : Clauses) (ids : List ℕ) (i : ℕ) → i < length ids
    → finite.contains_key live (get_or ids i 0) ≡ false
    → missing (without live (take i ids)) (drop i ids) ≡ Some (IsNotLive (get_or ids i 0))
missing-absent live ids i in_range absent =
    missing-here live ids i in_range
    (has-without live (take i ids) (get_or ids i 0)
    ∙ ap (λ b. b && not (list_any (nat_eq (get_or ids i 0)) (take i ids))) absent)

-- an id that the line named before
pub missing-repeated : (live : Clauses) (ids : List ℕ) (i : ℕ) → i < length ids
    → list_any (nat_eq (get_or ids i 0)) (take i ids) ≡ true
    → missing (without live (take i ids)) (drop i ids) ≡ Some (IsNotLive (get_or ids i 0))
missing-repeated live ids i in_range repeated =
    missing-here live ids i in_range
    (has-without live (take i ids) (get_or ids i 0)
    ∙ ap (λ b. finite.contains_key live (get_or ids i 0) && not b) repeated
    ∙ and-false (finite.contains_key live (get_or ids i 0)))
  where
    and-false : (b : Bool) → (b && false) ≡ false
    and-false true = refl
    and-false false = refl

-- an id that a clause has, and that the line did not name before
pub missing-later : (live : Clauses) (ids : List ℕ) (i : ℕ) → i < length ids
    → finite.contains_key live (get_or ids i 0) ≡ true
    → list_any (nat_eq (get_or ids i 0)) (take i ids) ≡ false
    → missing (without live (take (i + 1) ids)) (drop (i + 1) ids)
    ≡ missing (without live (take i ids)) (drop i ids)
missing-later live ids i in_range there new =
    missing-next live ids i in_range
    (has-without live (take i ids) (get_or ids i 0)
    ∙ ap (λ b. b && not (list_any (nat_eq (get_or ids i 0)) (take i ids))) there ∙ ap not new)

-- the ids so far, with one more
pub among-next : (ids : List ℕ) (i q : ℕ) → i < length ids
    → list_any (nat_eq q) (take (i + 1) ids)
    ≡ cond (nat_eq (get_or ids i 0) q) true (list_any (nat_eq q) (take i ids))
among-next ids i q in_range =
    ap (list_any (nat_eq q)) (taken-next ids i in_range)
    ∙ list_any-append (nat_eq q) (take i ids) (get_or ids i 0 ∷ [])
    ∙ cases (list_any (nat_eq q) (take i ids)) (nat_eq q (get_or ids i 0))
    ∙ ap (λ b. cond b true (list_any (nat_eq q) (take i ids))) (swapped (get_or ids i 0))
  where
    cases : (a b : Bool) → (a || (b || false)) ≡ cond b true a
    cases true true = refl
    cases true false = refl
    cases false true = refl
    cases false false = refl

    swapped : (id : ℕ) → nat_eq q id ≡ nat_eq id q
    swapped id = grind (arith, nat_tests)

-- the ids so far are among all
pub among-taken : (ids : List ℕ) (i q : ℕ) → list_any (nat_eq q) (take i ids) ≡ true
    → list_any (nat_eq q) ids ≡ true
among-taken ids i q some =
    ap (list_any (nat_eq q)) (sym (take-append-drop i ids))
    ∙ list_any-append (nat_eq q) (take i ids) (drop i ids)
    ∙ ap (λ b. b || list_any (nat_eq q) (drop i ids)) some
