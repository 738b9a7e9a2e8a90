-- from the literals of a clause back to what they rest on
use Rattle.std.specs.Prelude.{◌≡◌, ◌⊎◌, ◌<◌, ℕ, true, ◌||◌, if◌then◌else◌, List, [], ◌∷◌, Option, Some, None, slice_index_or}
use Rattle.std.specs.List.{filter}
use Rattle.gr_logic.specs.Literals.{Literal, negation, var_of}
use Rattle.gr_logic.specs.Rup.{LiteralSet, Live, members}
use Rattle.gr_logic.specs.Closure.{family_of}
use Rattle.gr_logic.specs.declared.places.Place.{Place}
use Rattle.gr_arena.specs.Arenas.{ArenaState, at}
use Rattle.gr_trail.specs.Trails.{Assigned, true_in, assigned_to}
use Rattle.gr_hints.specs.Marking.{is_marked, with_mark}
use Rattle.gr_hints.specs.Gathering.{literals_at}
use Rattle.gr_hints.specs.Graphs.{IsFalse}

-- the variables whose literals were forced, and those that were decided, as far as they were reached
pub record Reach : Type 0 where
  pub forced : List ℕ
  pub decided : List ℕ

-- the reason that the trail has for a variable
abbrev pub reason_of : Option Assigned → Option Place
reason_of None = None
reason_of (Some a) = a.reason

-- a variable is reached: by whether it has a reason
abbrev pub with_var : Option Place → Reach → ℕ → Reach
with_var None r var = record r { decided = with_mark r.decided var }
with_var (Some place) r var = record r { forced = with_mark r.forced var }

-- the variable of a literal is reached, but where the literal is true
abbrev pub with_literal_of : List Assigned → Reach → Literal → Reach
with_literal_of assigned r l =
    if true_in assigned l then r else with_var (reason_of (assigned_to assigned (var_of l))) r (var_of l)

-- so are those of a clause
abbrev pub with_clause_of : List Assigned → Reach → List Literal → Reach
with_clause_of assigned r [] = r
with_clause_of assigned r (l ∷ ls) = with_clause_of assigned (with_literal_of assigned r l) ls

-- the literal is true, or its variable was reached
abbrev pub IsCovered : List Assigned → Reach → Literal → Type 0
IsCovered assigned r l =
    (true_in assigned l ≡ true) ⊎ (is_marked r.forced (var_of l) ≡ true) ⊎ (is_marked r.decided (var_of l) ≡ true)

-- so is each literal of the list
abbrev pub AllCovered : List Assigned → Reach → List Literal → Type 0
AllCovered assigned r c = (l : Literal) → members c l ≡ true → IsCovered assigned r l

-- the variable's literal has a reason
abbrev pub IsForced : List Assigned → ℕ → Type 0
IsForced assigned var = (a : Assigned) × (place : Place) × (assigned_to assigned var ≡ Some a) × (a.reason ≡ Some place)

-- the variable's literal is a decision
abbrev pub IsDecided : List Assigned → ℕ → Type 0
IsDecided assigned var = (a : Assigned) × (assigned_to assigned var ≡ Some a) × (a.reason ≡ None)

-- the variable's literal has a reason, whose literals are covered
abbrev pub IsFollowed : ArenaState → List Assigned → Reach → ℕ → Type 0
IsFollowed arena assigned r var =
    (a : Assigned) × (place : Place) × (assigned_to assigned var ≡ Some a) × (a.reason ≡ Some place)
    × AllCovered assigned r (at arena place).lits

-- what was reached is of the trail
pub record IsOfTrail (assigned : List Assigned) (r : Reach) : Type 0 where
  pub forced : (var : ℕ) → is_marked r.forced var ≡ true → IsForced assigned var
  pub decided : (var : ℕ) → is_marked r.decided var ≡ true → IsDecided assigned var

-- and the first of the forced variables were followed
pub record AreFollowed (arena : ArenaState) (assigned : List Assigned) (r : Reach) (index : ℕ) : Type 0 where
  pub ofs : IsOfTrail assigned r
  pub done : (j d : ℕ) → j < index → IsFollowed arena assigned r (slice_index_or r.forced j d)

-- more was reached
pub record IsMore (old new : Reach) : Type 0 where
  pub forced : (var : ℕ) → is_marked old.forced var ≡ true → is_marked new.forced var ≡ true
  pub decided : (var : ℕ) → is_marked old.decided var ≡ true → is_marked new.decided var ≡ true

-- everything was reached that the literals of a clause rest on
pub record IsReached (arena : ArenaState) (assigned : List Assigned) (source : List Literal) (r : Reach) : Type 0 where
  pub ofs : IsOfTrail assigned r
  pub covered : AllCovered assigned r source
  pub followed : (var : ℕ) → is_marked r.forced var ≡ true → IsFollowed arena assigned r var

-- those of the literals that are true, or decided and reached
abbrev pub chosen_from : List Assigned → List ℕ → List Literal → List Literal
chosen_from assigned decided kept = filter (λ l. true_in assigned l || is_marked decided (var_of l)) kept

-- the set makes false what is decided and reached, and the true literals of the clause
pub record Falsifies (assigned : List Assigned) (r : Reach) (source : List Literal) (set : LiteralSet) : Type 0 where
  pub decided : (q : Literal) → IsFalse assigned q → is_marked r.decided (var_of q) ≡ true
      → set (negation q) ≡ true
  pub true' : (q : Literal) → members source q ≡ true → true_in assigned q ≡ true → set (negation q) ≡ true

-- the look-up has the reasons of the forced variables that were reached
abbrev pub HasReasonsOf : ArenaState → List Assigned → Reach → Live → Type 0
HasReasonsOf arena assigned r live =
    (a : Assigned) (place : Place) → is_marked r.forced (var_of a.lit) ≡ true
    → assigned_to assigned (var_of a.lit) ≡ Some a → a.reason ≡ Some place
    → family_of live (at arena place).id ≡ Some (literals_at arena place)
