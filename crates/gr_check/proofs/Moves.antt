-- runs whose literals are copied, one by one
use Rattle.std.proofs.Common.{◌≡◌, ℕ, ◌+◌, ◌<◌, ◌≤◌, inl, inr, List, [], ◌∷◌, ◌++◌, take, length, Option, Some, None, refl, sym, ap, ◌∙◌, arith, get_or}
use Rattle.std.specs.Prelude.{option_map, All}
use Rattle.std.proofs.Math.ListN.{get_or-map}
use Rattle.std.proofs.lemmas.List.{length-append, map-append, take_more, get_or_past}
use Rattle.std.proofs.lemmas.Bool.{cases_lt}
use Rattle.std.proofs.lemmas.List.Elements.{All-nil, All-cons, All-head, All-tail, All-push}
use Rattle.gr_logic.specs.Literals.{Literal}
use Rattle.gr_check.specs.Runs.{lits_of, IsRunWithin, clauses_in, AreMoved}
use Rattle.gr_check.specs.declared.runs.Run.{Run}
use Rattle.gr_check.proofs.RunMaps.{lits_of-append}

-- literals that are appended leave a run within
pub longer : (lits c : List Literal) (slot : Option Run) → IsRunWithin (length lits) slot
    → IsRunWithin (length (lits ++ c)) slot
longer lits c None within = tt
longer lits c (Some run) within = omega (arith, length-append lits c)

-- and all runs
pub all_longer : (lits c : List Literal) (slots : List (Option Run)) → All (IsRunWithin (length lits)) slots
    → All (IsRunWithin (length (lits ++ c))) slots
all_longer lits c [] all = All-nil (IsRunWithin (length (lits ++ c)))
all_longer lits c (slot ∷ slots) all =
    All-cons (IsRunWithin (length (lits ++ c))) slot slots
    (longer lits c slot (All-head (IsRunWithin (length lits)) slot slots all))
    (all_longer lits c slots (All-tail (IsRunWithin (length lits)) slot slots all))

-- literals that are appended change no run's literals
pub same_slot : (lits c : List Literal) (slot : Option Run) → IsRunWithin (length lits) slot
    → option_map (lits_of (lits ++ c)) slot ≡ option_map (lits_of lits) slot
same_slot lits c None within = refl
same_slot lits c (Some run) within = ap Some (lits_of-append lits c run within)

-- nor those of all runs
pub same_slots : (lits c : List Literal) (slots : List (Option Run)) → All (IsRunWithin (length lits)) slots
    → clauses_in (lits ++ c) slots ≡ clauses_in lits slots
same_slots lits c [] all = refl
same_slots lits c (slot ∷ slots) all =
    ap (λ x. x ∷ clauses_in (lits ++ c) slots)
    (same_slot lits c slot (All-head (IsRunWithin (length lits)) slot slots all))
    ∙ ap (λ xs. option_map (lits_of lits) slot ∷ xs)
    (same_slots lits c slots (All-tail (IsRunWithin (length lits)) slot slots all))

-- the clause at a place
pub clause_at : (lits : List Literal) (slots : List (Option Run)) (q : ℕ)
    → get_or (clauses_in lits slots) q None ≡ option_map (lits_of lits) (get_or slots q None)
clause_at lits slots q = get_or-map (option_map (lits_of lits)) slots q None

-- one more run is moved
pub same_next : (old_lits lits c : List Literal) (old new : List (Option Run)) (slot place : Option Run)
    → All (IsRunWithin (length lits)) new → clauses_in lits new ≡ clauses_in old_lits old
    → option_map (lits_of (lits ++ c)) place ≡ option_map (lits_of old_lits) slot
    → clauses_in (lits ++ c) (new ++ place ∷ []) ≡ clauses_in old_lits (old ++ slot ∷ [])
same_next old_lits lits c old new slot place all same one =
    map-append (option_map (lits_of (lits ++ c))) new (place ∷ [])
    ∙ ap (λ xs. xs ++ option_map (lits_of (lits ++ c)) place ∷ []) (same_slots lits c new all ∙ same)
    ∙ ap (λ x. clauses_in old_lits old ++ x ∷ []) one
    ∙ sym (map-append (option_map (lits_of old_lits)) old (slot ∷ []))

-- what holds of a run that is found
pub found_within : (count : ℕ) (found : Option Run)
    → ((run : Run) → found ≡ Some run → run.from + run.len ≤ count) → IsRunWithin count found
found_within count None one = tt
found_within count (Some run) one = one run refl

-- one more run of a vector is moved
pub moved_next : (old_lits lits c new_lits : List Literal) (old new more : List (Option Run)) (i : ℕ)
    (place : Option Run)
    → i < length old → AreMoved old_lits (take i old) lits new → new_lits ≡ lits ++ c
    → more ≡ new ++ place ∷ [] → IsRunWithin (length new_lits) place
    → option_map (lits_of new_lits) place ≡ option_map (lits_of old_lits) (get_or old i None)
    → AreMoved old_lits (take (i + 1) old) new_lits more
moved_next old_lits lits c new_lits old new more i place in_range so_far appended pushed within same =
    rw (pushed, appended, take_more old i None in_range)
    record {
      within =
          All-push (IsRunWithin (length (lits ++ c))) new place (all_longer lits c new so_far.within)
          (rw appended at within);
      same =
          same_next old_lits lits c (take i old) new (get_or old i None) place so_far.within so_far.same
          (rw appended at same);
    }

-- the run at a place ends within, if there is one
pub slot_within : (count : ℕ) (slots : List (Option Run)) → All (IsRunWithin count) slots → (q : ℕ)
    → IsRunWithin count (get_or slots q None)
slot_within count slots all q =
    elim (cases_lt q (length slots)) [
      | inl in_range ↦ all q None in_range
      | inr beyond ↦ rw (get_or_past slots q None beyond) tt
    ]

-- moved runs are there where the old ones were
pub same_places : (old_lits lits : List Literal) (old new : List (Option Run))
    → clauses_in lits new ≡ clauses_in old_lits old → (q : ℕ)
    → option_map (lits_of lits) (get_or new q None) ≡ option_map (lits_of old_lits) (get_or old q None)
same_places old_lits lits old new same q =
    sym (clause_at lits new q) ∙ ap (λ xs. get_or xs q None) same ∙ clause_at old_lits old q
