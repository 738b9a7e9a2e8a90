-- kept clauses as sets, by their ids
use Rattle.std.proofs.Common.{◌≡◌, ℕ, Bool, true, false, ◌||◌, ◌∙◌, List, [], ◌∷◌, Option, Some, None, refl, ap, arith, nat_eq, if◌then◌else◌}
use Rattle.std.specs.List.{list_any}
use Rattle.std.specs.Option.{option_map}
use Rattle.std.specs.Ordering.{nat_cmp, eq_by_cmp}
use Rattle.std.specs.Cmp.{nat_cmp_total}
use Rattle.std.specs.FinMap as finite
use Rattle.std.specs.FinSet as set
use Rattle.std.proofs.lemmas.Bool.Decides.{nat_tests}
use Rattle.gr_logic.specs.Literals.{Literal}
use Rattle.gr_logic.specs.LiteralSets.{FiniteSet, literal_cmp}
use Rattle.gr_logic.specs.Rup.{members}
use Rattle.gr_logic.proofs.FiniteSets.{literal_cmp_total, eq_by_cmp-literal}
use Rattle.gr_diary.specs.States.{has}
use Rattle.gr_strengthen.specs.Families.{KeptClauses, kept_family, without_ids}

-- the set of a list's literals
contains-members : (c : List Literal) → set.contains (set.from_list {R = literal_cmp} c) ≡ members c
contains-members c = λ i q. (set.contains-from_list literal_cmp_total c q
    ∙ ap (λ (test : Literal → Bool). list_any test c) (λ j l. eq_by_cmp-literal q l j)) i

eq_by_cmp-nat : (m n : ℕ) → eq_by_cmp nat_cmp m n ≡ nat_eq m n
eq_by_cmp-nat m n = grind (arith, nat_tests)

get-insert : {X : Type 0} (m : finite.FinMap nat_cmp X) (k : ℕ) (x : X) (q : ℕ)
    → finite.get (finite.insert m k x) q ≡ (if nat_eq q k then Some x else finite.get m q)
get-insert m k x q = finite.get-insert nat_cmp_total m k x q
    ∙ ap (λ b. if b then Some x else finite.get m q) (eq_by_cmp-nat q k)

get-remove : {X : Type 0} (m : finite.FinMap nat_cmp X) (k q : ℕ)
    → finite.get (finite.remove m k) q ≡ (if nat_eq q k then None else finite.get m q)
get-remove m k q = finite.get-remove nat_cmp_total m k q
    ∙ ap (λ b. if b then None else finite.get m q) (eq_by_cmp-nat q k)

-- a clause comes in
pub family-with : (kept : KeptClauses) (id : ℕ) (c : List Literal) (q : ℕ)
    → kept_family (finite.insert kept id (set.from_list c)) q
    ≡ (if nat_eq q id then Some (members c) else kept_family kept q)
family-with kept id c q =
    ap (option_map set.contains) (get-insert kept id (set.from_list c) q) ∙ pick (nat_eq q id)
  where
    pick : (b : Bool) → option_map set.contains (if b then Some (set.from_list c) else finite.get kept q)
        ≡ (if b then Some (members c) else kept_family kept q)
    pick true = ap Some (contains-members c)
    pick false = refl

family-removed : (kept : KeptClauses) (id q : ℕ)
    → kept_family (finite.remove kept id) q ≡ (if nat_eq q id then None else kept_family kept q)
family-removed kept id q = ap (option_map set.contains) (get-remove kept id q) ∙ pick (nat_eq q id)
  where
    pick : (b : Bool) → option_map set.contains (if b then None else finite.get kept q)
        ≡ (if b then None else kept_family kept q)
    pick true = refl
    pick false = refl

-- clauses go
pub family-without : (ids : List ℕ) (kept : KeptClauses) (q : ℕ)
    → kept_family (without_ids kept ids) q ≡ (if has q ids then None else kept_family kept q)
family-without [] kept q = refl
family-without (id ∷ ids) kept q = family-without ids (finite.remove kept id) q
    ∙ ap (λ o. if has q ids then None else o) (family-removed kept id q) ∙ pick (nat_eq q id) (has q ids)
  where
    pick : (b c : Bool) → (if c then None else (if b then None else kept_family kept q))
        ≡ (if b || c then None else kept_family kept q)
    pick true true = refl
    pick true false = refl
    pick false c = refl

-- an id of no clause of the family is not there
pub none-there : (kept : KeptClauses) (id : ℕ) → kept_family kept id ≡ None → finite.get kept id ≡ None
none-there kept id none = pick (finite.get kept id) none
  where
    pick : (o : Option FiniteSet) → option_map set.contains o ≡ None → o ≡ None
    pick None e = refl
    pick (Some s) e = absurd (cc)

-- at first nothing is kept
pub family-empty : (q : ℕ) → kept_family finite.empty q ≡ None
family-empty q = ap (option_map set.contains) (finite.get-empty nat_cmp q)
