-- which variables may be decided
use Rattle.std.specs.Prelude.{◌≡◌, ◌≢◌, ◌<◌, ◌≤◌, ℕ, Bool, true, false, List, length, None, slice_index_or}
use Rattle.gr_logic.specs.Literals.{Literal}
use Rattle.gr_trail.specs.Trails.{Assigned, value_in}
use Rattle.gr_hints.specs.Marking.{MarkState}

-- the variable with this index may be decided
abbrev pub may_be_decided : List Bool → ℕ → Bool
may_be_decided present index = slice_index_or present index false

-- each variable without a value may be decided
abbrev pub HoldsOpen : List Bool → List Assigned → Type 0
HoldsOpen present assigned =
    (l : Literal) → l.index < length present → value_in assigned l ≡ None → may_be_decided present l.index ≡ true

-- each variable without a value but this one may be decided
abbrev pub HoldsOpenBut : ℕ → List Bool → List Assigned → Type 0
HoldsOpenBut index present assigned =
    (l : Literal) → l.index < length present → l.index ≢ index → value_in assigned l ≡ None
    → may_be_decided present l.index ≡ true

-- the literal has no value, and each other variable without one may still be decided
pub record IsNext (present : List Bool) (assigned : List Assigned) (l : Literal) : Type 0 where
  pub within : l.index < length present
  pub unassigned : value_in assigned l ≡ None
  pub others : HoldsOpenBut l.index present assigned

-- each variable has a value
abbrev pub HasAllValues : ℕ → List Assigned → Type 0
HasAllValues vars assigned = (l : Literal) → l.index < vars → value_in assigned l ≢ None

-- the order, the phases and the marks are of the same variables
pub record IsChooser (vars : ℕ) (present phases : List Bool) (noted : MarkState) : Type 0 where
  pub few : vars ≤ 1000000
  pub known : length present ≡ vars
  pub signed : length phases ≡ vars
  pub marked : noted.vars ≡ vars
