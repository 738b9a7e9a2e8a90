-- look-ups among the entries of runs
use Rattle.std.proofs.Common.{◌≡◌, ◌≢◌, ℕ, zero, suc, ◌+◌, ◌<◌, ◌≤◌, Bool, true, false, List, [], ◌∷◌, ◌++◌, take, length, Option, Some, None, cond, nat_eq, get_or, refl, sym, ap, ◌∙◌, arith, get_or-set_other, get_or-set_same}
use Rattle.std.specs.Map.{lookup}
use Rattle.std.proofs.Math.ListN.{set, replicate}
use Rattle.std.proofs.lemmas.Bool.Decides.{nat_tests}
use Rattle.std.proofs.lemmas.List.{take_all, get_or_past}
use Rattle.gr_check.specs.Entries.{near_entries, Updated, IsWritten}
use Rattle.gr_check.specs.declared.runs.Run.{Run}

-- the first, or else the second
abbrev pub or_else : {X : Type 0} → Option X → Option X → Option X
or_else None second = second
or_else (Some x) second = Some x

-- ids below the first one are not in the vector
below : (slots : List (Option Run)) (far : List (ℕ × Run)) (id q : ℕ) → q < id
    → lookup (nat_eq q) (near_entries id slots ++ far) ≡ lookup (nat_eq q) far
below [] far id q lt = refl
below (None ∷ slots) far id q lt = below slots far (id + 1) q (omega arith)
below (Some run ∷ slots) far id q lt =
    let apart : nat_eq q id ≡ false = grind (arith, nat_tests) in
    ap (λ b. cond b (Some run) (lookup (nat_eq q) (near_entries (id + 1) slots ++ far))) apart
    ∙ below slots far (id + 1) q (omega arith)

-- an id is looked up in the vector first, by its distance from the first one
from : (slots : List (Option Run)) (far : List (ℕ × Run)) (id k q : ℕ) → q ≡ id + k
    → lookup (nat_eq q) (near_entries id slots ++ far)
    ≡ or_else (get_or slots k None) (lookup (nat_eq q) far)
from [] far id k q is = refl
from (None ∷ slots) far id zero q is = below slots far (id + 1) q (omega arith)
from (Some run ∷ slots) far id zero q is =
    let here : nat_eq q id ≡ true = grind (arith, nat_tests) in
    ap (λ b. cond b (Some run) (lookup (nat_eq q) (near_entries (id + 1) slots ++ far))) here
from (None ∷ slots) far id (suc k) q is = from slots far (id + 1) k q (omega arith)
from (Some run ∷ slots) far id (suc k) q is =
    let apart : nat_eq q id ≡ false = grind (arith, nat_tests) in
    ap (λ b. cond b (Some run) (lookup (nat_eq q) (near_entries (id + 1) slots ++ far))) apart
    ∙ from slots far (id + 1) k q (omega arith)

-- an id is looked up in the vector, and else in the map
pub lookup-entries : (slots : List (Option Run)) (far : List (ℕ × Run)) (q : ℕ)
    → lookup (nat_eq q) (near_entries 0 slots ++ far)
    ≡ or_else (get_or slots q None) (lookup (nat_eq q) far)
lookup-entries slots far q = from slots far 0 q q (omega arith)

-- a run that the vector has
pub in_near : (slots : List (Option Run)) (far : List (ℕ × Run)) (q : ℕ) (found : Option Run) (run : Run)
    → found ≡ Some run → found ≡ get_or slots q None
    → Some run ≡ lookup (nat_eq q) (near_entries 0 slots ++ far)
in_near slots far q found run is here =
    ap (λ x. or_else x (lookup (nat_eq q) far)) (sym is ∙ here) ∙ sym (lookup-entries slots far q)

-- a run that the vector has not
pub in_far : (slots : List (Option Run)) (far : List (ℕ × Run)) (q : ℕ) (found : Option Run)
    → found ≡ None → found ≡ get_or slots q None
    → lookup (nat_eq q) far ≡ lookup (nat_eq q) (near_entries 0 slots ++ far)
in_far slots far q found is here =
    ap (λ x. or_else x (lookup (nat_eq q) far)) (sym is ∙ here) ∙ sym (lookup-entries slots far q)

-- one slot is written
pub set_slot : (slots : List (Option Run)) (id : ℕ) (slot : Option Run) → id < length slots
    → IsWritten slots (set slots id slot) id slot
set_slot slots id slot in_range q =
    elim (nat_eq id q) as (λ b. nat_eq id q ≡ b
    → get_or (set slots id slot) q None ≡ cond b slot (get_or slots q None)) [
      | true ↦ λ same.
          let here : id ≡ q = grind (arith, nat_tests) in
          ap (λ k. get_or (set slots id slot) k None) (sym here)
          ∙ get_or-set_same slots id slot None in_range
      | false ↦ λ apart.
          let other : q ≢ id = grind (arith, nat_tests) in
          get_or-set_other slots id q slot None other
    ] refl

-- slots with no run
blank : (n q : ℕ) → get_or (replicate {A = Option Run} n None) q None ≡ None
blank zero q = refl
blank (suc n) zero = refl
blank (suc n) (suc q) = blank n q

-- slots with no run at the end
padded : (slots : List (Option Run)) (n q : ℕ)
    → get_or (slots ++ replicate n None) q None ≡ get_or slots q None
padded [] n q = blank n q
padded (slot ∷ slots) n zero = refl
padded (slot ∷ slots) n (suc q) = padded slots n q

-- slots that are filled up with no run
pub resized : (slots new : List (Option Run)) (n m : ℕ) → length slots ≤ n
    → new ≡ take n slots ++ replicate m None → (q : ℕ) → get_or new q None ≡ get_or slots q None
resized slots new n m long is q =
    ap (λ xs. get_or xs q None) (is ∙ ap (λ xs. xs ++ replicate m None) (take_all n slots long))
    ∙ padded slots m q

-- a run that is put into the vector
pub near_put : (slots new : List (Option Run)) (far : List (ℕ × Run)) (id : ℕ) (run : Run)
    → IsWritten slots new id (Some run)
    → Updated (near_entries 0 slots ++ far) (near_entries 0 new ++ far) id (Some run)
near_put slots new far id run put q =
    lookup-entries new far q ∙ ap (λ x. or_else x (lookup (nat_eq q) far)) (put q)
    ∙ cases (nat_eq id q) ∙ ap (cond (nat_eq id q) (Some run)) (sym (lookup-entries slots far q))
  where
    cases : (b : Bool) → or_else (cond b (Some run) (get_or slots q None)) (lookup (nat_eq q) far)
        ≡ cond b (Some run) (or_else (get_or slots q None) (lookup (nat_eq q) far))
    cases true = refl
    cases false = refl

-- a run that is put into the map, whose id the vector has not
pub far_put : (slots : List (Option Run)) (far new : List (ℕ × Run)) (id : ℕ) (run : Run)
    → get_or slots id None ≡ None → Updated far new id (Some run)
    → Updated (near_entries 0 slots ++ far) (near_entries 0 slots ++ new) id (Some run)
far_put slots far new id run none put q =
    lookup-entries slots new q ∙ ap (or_else (get_or slots q None)) (put q)
    ∙ (elim (nat_eq id q) as (λ b. nat_eq id q ≡ b
    → or_else (get_or slots q None) (cond b (Some run) (lookup (nat_eq q) far))
    ≡ cond b (Some run) (or_else (get_or slots q None) (lookup (nat_eq q) far))) [
      | true ↦ λ same.
          let here : id ≡ q = grind (arith, nat_tests) in
          ap (λ x. or_else x (Some run)) (ap (λ k. get_or slots k None) (sym here) ∙ none)
      | false ↦ λ apart. refl
    ] refl)
    ∙ ap (cond (nat_eq id q) (Some run)) (sym (lookup-entries slots far q))

-- an id that is taken out of both
pub taken : (slots new : List (Option Run)) (far rest : List (ℕ × Run)) (id : ℕ)
    → IsWritten slots new id None → Updated far rest id None
    → Updated (near_entries 0 slots ++ far) (near_entries 0 new ++ rest) id None
taken slots new far rest id out left q =
    lookup-entries new rest q ∙ ap (or_else (get_or new q None)) (left q)
    ∙ ap (λ x. or_else x (cond (nat_eq id q) None (lookup (nat_eq q) far))) (out q)
    ∙ cases (nat_eq id q) ∙ ap (cond (nat_eq id q) None) (sym (lookup-entries slots far q))
  where
    cases : (b : Bool)
        → or_else (cond b None (get_or slots q None)) (cond b None (lookup (nat_eq q) far))
        ≡ cond b None (or_else (get_or slots q None) (lookup (nat_eq q) far))
    cases true = refl
    cases false = refl

-- an id past the vector's end is not in it
pub past : (slots : List (Option Run)) (id : ℕ) → length slots ≤ id → IsWritten slots slots id None
past slots id beyond q =
    elim (nat_eq id q) as (λ b. nat_eq id q ≡ b → get_or slots q None ≡ cond b None (get_or slots q None)) [
      | true ↦ λ same. let here : length slots ≤ q = grind (arith, nat_tests) in get_or_past slots q None here
      | false ↦ λ apart. refl
    ] refl
