-- runs by their ids, as entries of a map
use Rattle.std.specs.Prelude.{ℕ, ◌+◌, ◌≡◌, List, [], ◌∷◌, ◌++◌, Option, Some, None, nat_eq, cond, slice_index_or}
use Rattle.std.specs.Map.{lookup}
use Rattle.gr_check.specs.declared.runs.Run.{Run}
use Rattle.gr_check.specs.declared.runs.RunMap.{RunMap}

-- the runs that stand in a vector, whose first one has this id
abbrev pub near_entries : ℕ → List (Option Run) → List (ℕ × Run)
near_entries id [] = []
near_entries id (None ∷ slots) = near_entries (id + 1) slots
near_entries id (Some run ∷ slots) = (id, run) ∷ near_entries (id + 1) slots

-- an id's run, if there is one, and then the other entries
abbrev pub with_entry : ℕ → Option Run → List (ℕ × Run) → List (ℕ × Run)
with_entry id None entries = entries
with_entry id (Some run) entries = (id, run) ∷ entries

-- the runs of these ids that stand in a vector, one by one from this place on
abbrev pub far_entries : ℕ → List ℕ → List (Option Run) → List (ℕ × Run)
far_entries place [] slots = []
far_entries place (id ∷ ids) slots =
    with_entry id (slice_index_or slots place None) (far_entries (place + 1) ids slots)

-- the runs of a map, those whose ids index a vector first
abbrev pub entries_of : RunMap → List (ℕ × Run)
entries_of runs = near_entries 0 runs.near.items ++ far_entries 0 runs.far_ids runs.far.items

-- an id's run is put in, or taken out, and the others stay
abbrev pub Updated : List (ℕ × Run) → List (ℕ × Run) → ℕ → Option Run → Type 0
Updated old new id run =
    (q : ℕ) → lookup (nat_eq q) new ≡ cond (nat_eq id q) run (lookup (nat_eq q) old)

-- one slot of a vector holds this, and the others are the same
abbrev pub IsWritten : List (Option Run) → List (Option Run) → ℕ → Option Run → Type 0
IsWritten old new index slot =
    (q : ℕ) → slice_index_or new q None ≡ cond (nat_eq index q) slot (slice_index_or old q None)
