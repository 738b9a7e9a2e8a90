-- the clauses of both vectors of runs after their literals were moved
use Rattle.std.proofs.Common.{◌≡◌, ℕ, ◌+◌, ◌≤◌, Bool, true, false, List, [], ◌∷◌, ◌++◌, map, take, length, Option, Some, None, cond, nat_eq, get_or, refl, sym, ap, ◌∙◌}
use Rattle.std.specs.Prelude.{option_map, is_some, All}
use Rattle.std.specs.Map.{lookup}
use Rattle.std.specs.FinMap as finite
use Rattle.std.proofs.lemmas.List.{map-append}
use Rattle.gr_logic.specs.Literals.{Literal}
use Rattle.gr_check.specs.Runs.{lits_of, clauses_of, clauses_in, AreSlid, IsRunWithin, RunsWithin, are_in_order, end_in_order, end_of}
use Rattle.gr_check.specs.Entries.{near_entries, far_entries, with_entry}
use Rattle.gr_check.specs.declared.runs.Run.{Run}
use Rattle.gr_check.proofs.Entries.{or_else, lookup-entries}
use Rattle.gr_check.proofs.FarEntries.{look}
use Rattle.gr_check.proofs.Moves.{same_places, slot_within}
use Rattle.gr_check.proofs.Sliding.{ends_in_order, first_moved, then_moved}

-- an id's clause
abbrev clause_of : List Literal → (ℕ × Run) → (ℕ × List Literal)
clause_of lits e = (e.0, lits_of lits e.1)

-- the clauses whose ids are indices
near_same : (src lits : List Literal) (id : ℕ) (old new : List (Option Run))
    → clauses_in lits new ≡ clauses_in src old
    → map (clause_of lits) (near_entries id new) ≡ map (clause_of src) (near_entries id old)
near_same src lits id [] [] same = refl
near_same src lits id [] (x ∷ new) same = absurd (cc)
near_same src lits id (x ∷ old) [] same = absurd (cc)
near_same src lits id (None ∷ old) (None ∷ new) same =
    let rest : clauses_in lits new ≡ clauses_in src old = cc in near_same src lits (id + 1) old new rest
near_same src lits id (None ∷ old) (Some run ∷ new) same = absurd (cc)
near_same src lits id (Some run ∷ old) (None ∷ new) same = absurd (cc)
near_same src lits id (Some run ∷ old) (Some place ∷ new) same =
    let rest : clauses_in lits new ≡ clauses_in src old = cc in
    let here : lits_of lits place ≡ lits_of src run = cc in
    ap (λ c. (id, c) ∷ map (clause_of lits) (near_entries (id + 1) new)) here
    ∙ ap (λ cs. (id, lits_of src run) ∷ cs) (near_same src lits (id + 1) old new rest)

-- the clause of one id, and then the others
one_same : (src lits : List Literal) (id : ℕ) (slot place : Option Run) (old new : List (ℕ × Run))
    → option_map (lits_of lits) place ≡ option_map (lits_of src) slot
    → map (clause_of lits) new ≡ map (clause_of src) old
    → map (clause_of lits) (with_entry id place new) ≡ map (clause_of src) (with_entry id slot old)
one_same src lits id None None old new same rest = rest
one_same src lits id None (Some run) old new same rest = absurd (cc)
one_same src lits id (Some run) None old new same rest = absurd (cc)
one_same src lits id (Some run) (Some place) old new same rest =
    let here : lits_of lits place ≡ lits_of src run = cc in
    ap (λ c. (id, c) ∷ map (clause_of lits) new) here ∙ ap (λ cs. (id, lits_of src run) ∷ cs) rest

-- the clauses whose ids are searched
far_same : (src lits : List Literal) (ids : List ℕ) (place : ℕ) (old new : List (Option Run))
    → clauses_in lits new ≡ clauses_in src old
    → map (clause_of lits) (far_entries place ids new) ≡ map (clause_of src) (far_entries place ids old)
far_same src lits [] place old new same = refl
far_same src lits (id ∷ ids) place old new same =
    one_same src lits id (get_or old place None) (get_or new place None) (far_entries (place + 1) ids old)
    (far_entries (place + 1) ids new) (same_places src lits old new same place)
    (far_same src lits ids (place + 1) old new same)

-- all clauses
pub all_same : (src lits : List Literal) (ids : List ℕ) (near far new_near new_far : List (Option Run))
    → clauses_in lits new_near ≡ clauses_in src near → clauses_in lits new_far ≡ clauses_in src far
    → clauses_of lits (near_entries 0 new_near ++ far_entries 0 ids new_far)
    ≡ clauses_of src (near_entries 0 near ++ far_entries 0 ids far)
all_same src lits ids near far new_near new_far same_near same_far =
    ap finite.from_entries
    (map-append (clause_of lits) (near_entries 0 new_near) (far_entries 0 ids new_far)
    ∙ ap (λ cs. cs ++ map (clause_of lits) (far_entries 0 ids new_far))
    (near_same src lits 0 near new_near same_near)
    ∙ ap (λ cs. map (clause_of src) (near_entries 0 near) ++ cs)
    (far_same src lits ids 0 far new_far same_far)
    ∙ sym (map-append (clause_of src) (near_entries 0 near) (far_entries 0 ids far)))

-- what is found is within where each slot is
far_within : (count : ℕ) (slots : List (Option Run)) → All (IsRunWithin count) slots → (ids : List ℕ) (place q : ℕ)
    (run : Run) → lookup (nat_eq q) (far_entries place ids slots) ≡ Some run → run.from + run.len ≤ count
far_within count slots all [] place q run found = absurd (cc)
far_within count slots all (id ∷ ids) place q run found =
    cases (nat_eq q id) (get_or slots place None) (lookup (nat_eq q) (far_entries (place + 1) ids slots))
    (slot_within count slots all place) (far_within count slots all ids (place + 1) q run)
    (sym (look id q (get_or slots place None) (far_entries (place + 1) ids slots)) ∙ found)
  where
    cases : (b : Bool) (slot rest : Option Run) → IsRunWithin count slot
        → (rest ≡ Some run → run.from + run.len ≤ count)
        → cond b (or_else slot rest) rest ≡ Some run → run.from + run.len ≤ count
    cases true None rest within others is = others is
    cases true (Some first) rest within others is = let same : first ≡ run = cc in rw same at within
    cases false slot rest within others is = others is

-- all runs end within
pub both_within : (count : ℕ) (ids : List ℕ) (near far : List (Option Run)) → All (IsRunWithin count) near
    → All (IsRunWithin count) far → RunsWithin count (near_entries 0 near ++ far_entries 0 ids far)
both_within count ids near far all_near all_far q run found =
    cases (get_or near q None) (slot_within count near all_near q)
    (sym (lookup-entries near (far_entries 0 ids far) q) ∙ found)
  where
    cases : (slot : Option Run) → IsRunWithin count slot
        → or_else slot (lookup (nat_eq q) (far_entries 0 ids far)) ≡ Some run → run.from + run.len ≤ count
    cases None within is = far_within count far all_far ids 0 q run is
    cases (Some first) within is = let same : first ≡ run = cc in rw same at within

-- runs for which an end was found are in order, and so are those for which one was found from there on, and all end
-- within
pub both_in_order : (count n start : ℕ) (near far near_now far_now : List (Option Run)) (first second : Option ℕ)
    → count ≡ n → near_now ≡ near → far_now ≡ far → first ≡ end_in_order count 0 near_now → first ≡ Some start
    → second ≡ end_in_order count start far_now → is_some second ≡ true
    → (are_in_order 0 near ≡ true) × All (IsRunWithin n) near × (are_in_order (end_of 0 near) far ≡ true)
    × All (IsRunWithin n) far
both_in_order count n start near far near_now far_now first None same is_near is_far found is next there =
    absurd (cc)
both_in_order count n start near far near_now far_now first (Some end) same is_near is_far found is next there =
    let near_found : end_in_order n 0 near ≡ Some start =
    ap (λ k. end_in_order k 0 near) (sym same) ∙ ap (end_in_order count 0) (sym is_near) ∙ sym found ∙ is in
    let far_found : end_in_order n start far ≡ Some end =
    ap (λ k. end_in_order k start far) (sym same) ∙ ap (end_in_order count start) (sym is_far) ∙ sym next in
    let near_order = ends_in_order n 0 start near near_found in
    let far_order = ends_in_order n start end far far_found in
    (near_order.0, near_order.1, rw near_order.2 at far_order.0, far_order.1)

-- literals that are moved for both
pub compacted_within : (src mid lits : List Literal) (ids : List ℕ) (near far new_near new_far : List (Option Run))
    (middle end : ℕ)
    → AreSlid src near 0 mid new_near middle → AreSlid mid far middle lits new_far end
    → RunsWithin (length (take end lits)) (near_entries 0 new_near ++ far_entries 0 ids new_far)
compacted_within src mid lits ids near far new_near new_far middle end first second =
    let moved = first_moved src mid lits near new_near middle end second.started second.kept first.moved in
    both_within (length (take end lits)) ids new_near new_far moved.within second.moved.within

-- and their clauses
pub compacted_clauses : (src mid lits : List Literal) (ids : List ℕ) (near far new_near new_far : List (Option Run))
    (middle end : ℕ)
    → AreSlid src near 0 mid new_near middle → AreSlid mid far middle lits new_far end
    → are_in_order middle far ≡ true
    → clauses_of (take end lits) (near_entries 0 new_near ++ far_entries 0 ids new_far)
    ≡ clauses_of src (near_entries 0 near ++ far_entries 0 ids far)
compacted_clauses src mid lits ids near far new_near new_far middle end first second order =
    let moved = first_moved src mid lits near new_near middle end second.started second.kept first.moved in
    let then = then_moved src mid lits far new_far middle end first.rest order second.moved in
    all_same src (take end lits) ids near far new_near new_far moved.same then.same
