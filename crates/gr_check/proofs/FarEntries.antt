-- look-ups among the runs whose ids are searched
use Rattle.std.proofs.Common.{◌≡◌, ◌≢◌, ℕ, zero, suc, ◌+◌, ◌<◌, Bool, true, false, List, [], ◌∷◌, ◌++◌, length, Option, Some, None, cond, nat_eq, get_or, refl, sym, ap, ◌∙◌, arith}
use Rattle.std.specs.Prelude.{All}
use Rattle.std.specs.Map.{lookup}
use Rattle.std.proofs.lemmas.Bool.Decides.{nat_tests}
use Rattle.gr_check.specs.Places.{IsPlaceOf}
use Rattle.gr_check.specs.Entries.{with_entry, far_entries, Updated, IsWritten}
use Rattle.gr_check.specs.declared.runs.Run.{Run}
use Rattle.gr_check.proofs.Entries.{or_else}

-- nothing comes second
pub alone : {X : Type 0} (first : Option X) → or_else first None ≡ first
alone None = refl
alone (Some x) = refl

-- an id's run is found, or else the other entries are looked through
pub look : (id q : ℕ) (slot : Option Run) (entries : List (ℕ × Run))
    → lookup (nat_eq q) (with_entry id slot entries)
    ≡ cond (nat_eq q id) (or_else slot (lookup (nat_eq q) entries)) (lookup (nat_eq q) entries)
look id q None entries = cases (nat_eq q id) (lookup (nat_eq q) entries)
  where
    cases : (b : Bool) (found : Option Run) → found ≡ cond b found found
    cases true found = refl
    cases false found = refl
look id q (Some run) entries = refl

-- places are counted from the next one on
next_place : (slots : List (Option Run)) (place i : ℕ)
    → get_or slots (place + suc i) None ≡ get_or slots (place + 1 + i) None
next_place slots place i =
    let is : place + suc i ≡ place + 1 + i = omega arith in ap (λ k. get_or slots k None) is

-- the place itself
same_place : (slots : List (Option Run)) (place : ℕ) → get_or slots (place + 0) None ≡ get_or slots place None
same_place slots place = let is : place + 0 ≡ place = omega arith in ap (λ k. get_or slots k None) is

-- places are counted from the first one on
pub from_start : (slots : List (Option Run)) (i : ℕ) → get_or slots (0 + i) None ≡ get_or slots i None
from_start slots i = let is : 0 + i ≡ i = omega arith in ap (λ k. get_or slots k None) is

-- an id is found alike where the slots at its places are alike
pub same_where : (q : ℕ) (ids : List ℕ) (xs ys : List (Option Run)) (place : ℕ)
    → ((i : ℕ) → i < length ids → get_or ids i 0 ≡ q
    → get_or xs (place + i) None ≡ get_or ys (place + i) None)
    → lookup (nat_eq q) (far_entries place ids xs) ≡ lookup (nat_eq q) (far_entries place ids ys)
same_where q [] xs ys place same = refl
same_where q (id ∷ ids) xs ys place same =
    let others : lookup (nat_eq q) (far_entries (place + 1) ids xs)
    ≡ lookup (nat_eq q) (far_entries (place + 1) ids ys) =
    same_where q ids xs ys (place + 1)
    (λ i lt is. sym (next_place xs place i) ∙ same (suc i) (omega arith) is ∙ next_place ys place i) in
    look id q (get_or xs place None) (far_entries (place + 1) ids xs)
    ∙ (elim (nat_eq q id) as (λ b. nat_eq q id ≡ b
    → cond b (or_else (get_or xs place None) (lookup (nat_eq q) (far_entries (place + 1) ids xs)))
    (lookup (nat_eq q) (far_entries (place + 1) ids xs))
    ≡ cond b (or_else (get_or ys place None) (lookup (nat_eq q) (far_entries (place + 1) ids ys)))
    (lookup (nat_eq q) (far_entries (place + 1) ids ys))) [
      | true ↦ λ is.
          let here : id ≡ q = grind (arith, nat_tests) in
          ap (λ x. or_else x (lookup (nat_eq q) (far_entries (place + 1) ids xs)))
          (sym (same_place xs place) ∙ same 0 (omega arith) here ∙ same_place ys place)
          ∙ ap (or_else (get_or ys place None)) others
      | false ↦ λ apart. others
    ] refl)
    ∙ sym (look id q (get_or ys place None) (far_entries (place + 1) ids ys))

-- the entries are the same where the slots of all ids are
pub same_entries : (ids : List ℕ) (xs ys : List (Option Run)) (place : ℕ)
    → ((i : ℕ) → i < length ids → get_or xs (place + i) None ≡ get_or ys (place + i) None)
    → far_entries place ids xs ≡ far_entries place ids ys
same_entries [] xs ys place same = refl
same_entries (id ∷ ids) xs ys place same =
    ap (λ x. with_entry id x (far_entries (place + 1) ids xs))
    (sym (same_place xs place) ∙ same 0 (omega arith) ∙ same_place ys place)
    ∙ ap (with_entry id (get_or ys place None))
    (same_entries ids xs ys (place + 1)
    (λ i lt. sym (next_place xs place i) ∙ same (suc i) (omega arith) ∙ next_place ys place i))

-- no runs
none_in : (q : ℕ) (ids : List ℕ) (place : ℕ) → lookup (nat_eq q) (far_entries place ids []) ≡ None
none_in q [] place = refl
none_in q (id ∷ ids) place = none_in q ids (place + 1)

-- an id that stands nowhere has no run
pub absent : (q : ℕ) (ids : List ℕ) (slots : List (Option Run)) (place : ℕ)
    → ((i : ℕ) → i < length ids → get_or ids i 0 ≢ q)
    → lookup (nat_eq q) (far_entries place ids slots) ≡ None
absent q ids slots place apart =
    same_where q ids slots [] place (λ i lt is. absurd (apart i lt is)) ∙ none_in q ids place

-- an id's run is in the slot at its place
pub found : (q : ℕ) (ids : List ℕ) (slots : List (Option Run)) (place k : ℕ) → IsPlaceOf ids q k
    → lookup (nat_eq q) (far_entries place ids slots) ≡ get_or slots (place + k) None
found q [] slots place k is = absurd (let lt = is.within in omega arith)
found q (id ∷ ids) slots place zero is =
    let here : id ≡ q = is.here in
    let same : nat_eq q id ≡ true = grind (arith, nat_tests) in
    look id q (get_or slots place None) (far_entries (place + 1) ids slots)
    ∙ ap (λ b. cond b (or_else (get_or slots place None) (lookup (nat_eq q) (far_entries (place + 1) ids slots)))
    (lookup (nat_eq q) (far_entries (place + 1) ids slots))) same
    ∙ ap (or_else (get_or slots place None))
    (absent q ids slots (place + 1)
    (λ i lt there. let first : suc i ≡ 0 = is.only (suc i) (omega arith) there in omega arith))
    ∙ alone (get_or slots place None) ∙ sym (same_place slots place)
found q (id ∷ ids) slots place (suc k) is =
    look id q (get_or slots place None) (far_entries (place + 1) ids slots)
    ∙ (elim (nat_eq q id) as (λ b. nat_eq q id ≡ b
    → cond b (or_else (get_or slots place None) (lookup (nat_eq q) (far_entries (place + 1) ids slots)))
    (lookup (nat_eq q) (far_entries (place + 1) ids slots))
    ≡ get_or slots (place + suc k) None) [
      | true ↦ λ same.
          let here : id ≡ q = grind (arith, nat_tests) in
          absurd (let first : 0 ≡ suc k = is.only 0 (omega arith) here in omega arith)
      | false ↦ λ apart.
          found q ids slots (place + 1) k (record {
            within = let lt = is.within in omega arith;
            here = is.here;
            only = λ i lt there. let later : suc i ≡ suc k = is.only (suc i) (omega arith) there in omega arith;
          })
          ∙ sym (next_place slots place k)
    ] refl)

-- an id's slot is written
pub far_set : (ids : List ℕ) (slots new : List (Option Run)) (id place : ℕ) (slot : Option Run)
    → IsPlaceOf ids id place → IsWritten slots new place slot
    → Updated (far_entries 0 ids slots) (far_entries 0 ids new) id slot
far_set ids slots new id place slot is written q =
    elim (nat_eq id q) as (λ b. nat_eq id q ≡ b
    → lookup (nat_eq q) (far_entries 0 ids new) ≡ cond b slot (lookup (nat_eq q) (far_entries 0 ids slots))) [
      | true ↦ λ same.
          let here : id ≡ q = grind (arith, nat_tests) in
          let own : nat_eq place place ≡ true = grind (arith, nat_tests) in
          ap (λ k. lookup (nat_eq k) (far_entries 0 ids new)) (sym here)
          ∙ found id ids new 0 place is ∙ from_start new place ∙ written place
          ∙ ap (λ b. cond b slot (get_or slots place None)) own
      | false ↦ λ apart.
          same_where q ids new slots 0
          (λ i lt there. from_start new i ∙ written i
          ∙ ap (λ b. cond b slot (get_or slots i None)) (other i there apart) ∙ sym (from_start slots i))
    ] refl
  where
    other : (i : ℕ) → get_or ids i 0 ≡ q → nat_eq id q ≡ false → nat_eq place i ≡ false
    other i there apart =
        elim (nat_eq place i) as (λ b. nat_eq place i ≡ b → b ≡ false) [
          | true ↦ λ same.
              let at : place ≡ i = grind (arith, nat_tests) in
              let here : id ≡ q = sym is.here ∙ ap (λ k. get_or ids k 0) at ∙ there in
              absurd (grind (arith, nat_tests))
          | false ↦ λ is. refl
        ] refl

-- an id that stands nowhere is taken out
pub far_none : (ids : List ℕ) (slots : List (Option Run)) (id : ℕ)
    → ((i : ℕ) → i < length ids → get_or ids i 0 ≢ id)
    → Updated (far_entries 0 ids slots) (far_entries 0 ids slots) id None
far_none ids slots id apart q =
    elim (nat_eq id q) as (λ b. nat_eq id q ≡ b
    → lookup (nat_eq q) (far_entries 0 ids slots) ≡ cond b None (lookup (nat_eq q) (far_entries 0 ids slots))) [
      | true ↦ λ same.
          let here : id ≡ q = grind (arith, nat_tests) in
          ap (λ k. lookup (nat_eq k) (far_entries 0 ids slots)) (sym here) ∙ absent id ids slots 0 apart
      | false ↦ λ other. refl
    ] refl

-- an id more is looked up last
lookup-push : (q : ℕ) (ids : List ℕ) (id : ℕ) (slots : List (Option Run)) (place : ℕ)
    → lookup (nat_eq q) (far_entries place (ids ++ id ∷ []) slots)
    ≡ or_else (lookup (nat_eq q) (far_entries place ids slots))
    (cond (nat_eq q id) (get_or slots (place + length ids) None) None)
lookup-push q [] id slots place =
    look id q (get_or slots place None) []
    ∙ ap (λ x. cond (nat_eq q id) x None) (alone (get_or slots place None) ∙ sym (same_place slots place))
lookup-push q (x ∷ ids) id slots place =
    look x q (get_or slots place None) (far_entries (place + 1) (ids ++ id ∷ []) slots)
    ∙ ap (λ o. cond (nat_eq q x) (or_else (get_or slots place None) o) o)
    (lookup-push q ids id slots (place + 1)
    ∙ ap (λ o. or_else (lookup (nat_eq q) (far_entries (place + 1) ids slots)) (cond (nat_eq q id) o None))
    (sym (next_place slots place (length ids))))
    ∙ cases (nat_eq q x) (get_or slots place None) (lookup (nat_eq q) (far_entries (place + 1) ids slots)) _
    ∙ ap (λ o. or_else o (cond (nat_eq q id) (get_or slots (place + suc (length ids)) None) None))
    (sym (look x q (get_or slots place None) (far_entries (place + 1) ids slots)))
  where
    cases : (b : Bool) (slot first second : Option Run)
        → cond b (or_else slot (or_else first second)) (or_else first second)
        ≡ or_else (cond b (or_else slot first) first) second
    cases true None first second = refl
    cases true (Some run) first second = refl
    cases false slot first second = refl

-- a run that is put in under an id that is greater than all others
pub far_pushed : (ids : List ℕ) (slots new : List (Option Run)) (id : ℕ) (run : Run)
    → All (λ other. other < id) ids → IsWritten slots new (length ids) (Some run)
    → Updated (far_entries 0 ids slots) (far_entries 0 (ids ++ id ∷ []) new) id (Some run)
far_pushed ids slots new id run below written q =
    lookup-push q ids id new 0
    ∙ ap (λ x. or_else (lookup (nat_eq q) (far_entries 0 ids new)) (cond (nat_eq q id) x None))
    (from_start new (length ids))
    ∙ (elim (nat_eq id q) as (λ b. nat_eq id q ≡ b
    → or_else (lookup (nat_eq q) (far_entries 0 ids new)) (cond (nat_eq q id) (get_or new (length ids) None) None)
    ≡ cond b (Some run) (lookup (nat_eq q) (far_entries 0 ids slots))) [
      | true ↦ λ same.
          let here : q ≡ id = grind (arith, nat_tests) in
          let own : nat_eq q id ≡ true = grind (arith, nat_tests) in
          let end : nat_eq (length ids) (length ids) ≡ true = grind (arith, nat_tests) in
          ap (λ x. or_else x (cond (nat_eq q id) (get_or new (length ids) None) None))
          (absent q ids new 0 (λ i lt is. let less = below i 0 lt in omega arith))
          ∙ ap (λ b. cond b (get_or new (length ids) None) None) own
          ∙ written (length ids) ∙ ap (λ b. cond b (Some run) (get_or slots (length ids) None)) end
      | false ↦ λ apart.
          let other : nat_eq q id ≡ false = grind (arith, nat_tests) in
          ap (λ b. or_else (lookup (nat_eq q) (far_entries 0 ids new)) (cond b (get_or new (length ids) None) None))
          other
          ∙ alone (lookup (nat_eq q) (far_entries 0 ids new))
          ∙ same_where q ids new slots 0
          (λ i lt there. from_start new i ∙ written_before i lt ∙ sym (from_start slots i))
    ] refl)
  where
    written_before : (i : ℕ) → i < length ids → get_or new i None ≡ get_or slots i None
    written_before i lt =
        let earlier : nat_eq (length ids) i ≡ false = grind (arith, nat_tests) in
        written i ∙ ap (λ b. cond b (Some run) (get_or slots i None)) earlier

-- a slot behind those of all ids is written
pub far_behind : (ids : List ℕ) (slots new : List (Option Run)) (slot : Option Run)
    → IsWritten slots new (length ids) slot → far_entries 0 ids new ≡ far_entries 0 ids slots
far_behind ids slots new slot written =
    same_entries ids new slots 0
    (λ i lt.
    let earlier : nat_eq (length ids) i ≡ false = grind (arith, nat_tests) in
    from_start new i ∙ written i ∙ ap (λ b. cond b slot (get_or slots i None)) earlier ∙ sym (from_start slots i))
