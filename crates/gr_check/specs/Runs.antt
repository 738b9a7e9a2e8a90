-- clauses as runs of one list of literals
use Rattle.std.specs.Prelude.{ℕ, ◌+◌, ◌<◌, ◌≤◌, ◌≡◌, Bool, true, ◌&&◌, nat_le, List, [], ◌∷◌, if◌then◌else◌, map, length, take, drop, Option, Some, None, nat_eq, option_map, slice_index_or, slice_get, All}
use Rattle.std.specs.Map.{lookup}
use Rattle.std.specs.FinMap as finite
use Rattle.gr_logic.specs.Literals.{Literal}
use Rattle.gr_logic.specs.Log.{Clauses}
use Rattle.gr_check.specs.declared.runs.Run.{Run}

-- the literals of a run
abbrev pub lits_of : List Literal → Run → List Literal
lits_of lits run = take run.len (drop run.from lits)

-- the clauses, by their ids, whose runs these are
abbrev pub clauses_of : List Literal → List (ℕ × Run) → Clauses
clauses_of lits runs = finite.from_entries (map (λ e. (e.0, lits_of lits e.1)) runs)

-- each id's run ends within so many literals
abbrev pub RunsWithin : ℕ → List (ℕ × Run) → Type 0
RunsWithin count runs =
    (id : ℕ) (run : Run) → lookup (nat_eq id) runs ≡ Some run → run.from + run.len ≤ count

-- the literals of a run, if there is one
abbrev pub lits_in : List Literal → Option Run → List Literal
lits_in lits None = []
lits_in lits (Some run) = lits_of lits run

-- a run, if there is one, ends within so many literals
abbrev pub IsRunWithin : ℕ → Option Run → Type 0
IsRunWithin count None = Unit {0}
IsRunWithin count (Some run) = run.from + run.len ≤ count

-- how many literals a run has, if there is one
abbrev pub run_length : Option Run → ℕ
run_length None = 0
run_length (Some run) = run.len

-- a run, if there is one, begins no earlier than here
abbrev pub begins_from : ℕ → Option Run → Bool
begins_from end None = true
begins_from end (Some run) = nat_le end run.from

-- a run, if there is one, that begins here instead
abbrev pub moved_to : ℕ → Option Run → Option Run
moved_to end None = None
moved_to end (Some run) = Some (record { from = end; len = run.len })

-- each run begins no earlier than where those before it end if they are moved together from here on
abbrev pub are_in_order : ℕ → List (Option Run) → Bool
are_in_order end [] = true
are_in_order end (slot ∷ slots) = begins_from end slot && are_in_order (end + run_length slot) slots

-- a run, if there is one, begins no earlier than here, and ends within so many literals
abbrev pub is_movable : ℕ → ℕ → Option Run → Bool
is_movable count end None = true
is_movable count end (Some run) = nat_le end run.from && nat_le (run.from + run.len) count

-- where the runs end if they are moved together from here on, or nothing where one of them is before its new place, or
-- ends beyond so many literals
abbrev pub end_in_order : ℕ → ℕ → List (Option Run) → Option ℕ
end_in_order count end [] = Some end
end_in_order count end (slot ∷ slots) =
    if is_movable count end slot then end_in_order count (end + run_length slot) slots else None

-- where the runs end if they are moved together from here on
abbrev pub end_of : ℕ → List (Option Run) → ℕ
end_of end [] = end
end_of end (slot ∷ slots) = end_of (end + run_length slot) slots

-- the clauses whose runs these are, place by place
abbrev pub clauses_in : List Literal → List (Option Run) → List (Option (List Literal))
clauses_in lits slots = map (option_map (lits_of lits)) slots

-- runs that were moved have the clauses that the old ones had among the old literals
pub record AreMoved (old_lits : List Literal) (old : List (Option Run)) (lits : List Literal)
    (new : List (Option Run))
    : Type 0 where
  pub within : All (IsRunWithin (length lits)) new
  pub same : clauses_in lits new ≡ clauses_in old_lits old

-- runs that were moved together from a place on, up to an end, and the literals before and behind are the same
pub record AreSlid (old_lits : List Literal) (old : List (Option Run)) (start : ℕ) (lits : List Literal)
    (new : List (Option Run)) (end : ℕ)
    : Type 0 where
  pub ends : end ≡ end_of start old
  pub started : start ≤ end
  pub reached : end ≤ length lits
  pub count : length lits ≡ length old_lits
  pub kept : take start lits ≡ take start old_lits
  pub rest : drop end lits ≡ drop end old_lits
  pub moved : AreMoved old_lits old (take end lits) new

-- each place has the run of its id's clause, or nothing where no clause has the id, and the firsts are these clauses'
-- first literals; what stands behind the ids' places is of no matter
pub record AreLocated (clauses : Clauses) (lits : List Literal) (ids : List ℕ)
    (places : List (Option Run)) (firsts : List (Option Literal))
    : Type 0 where
  pub count : length ids ≤ length places
  pub count_firsts : length ids ≤ length firsts
  pub within : (k : ℕ) → k < length ids → (run : Run) → slice_index_or places k None ≡ Some run
      → run.from + run.len ≤ length lits
  pub found : (k : ℕ) → k < length ids
      → finite.get clauses (slice_index_or ids k 0)
      ≡ option_map (lits_of lits) (slice_index_or places k None)
  pub first : (k : ℕ) → k < length ids
      → slice_index_or firsts k None ≡ slice_get (lits_in lits (slice_index_or places k None)) 0
