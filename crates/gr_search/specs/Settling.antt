-- which literals of level zero have unit clauses of their own
use Rattle.std.specs.Prelude.{◌≡◌, ◌≤◌, ℕ, List, [], ◌∷◌, ◌++◌, length, take, All, Some, slice_get}
use Rattle.std.specs.FinMap as finite
use Rattle.gr_logic.specs.Literals.{Literal, var_of}
use Rattle.gr_logic.specs.declared.places.Place.{Place}
use Rattle.gr_trail.specs.Trails.{Assigned, assigned_to}
use Rattle.gr_prop.specs.Bases.{BaseClause, BaseState, Clauses}
use Rattle.gr_search.specs.Keeping.{IsSettled}

-- so many literals are settled
pub record AreSettled (k : Clauses) (assigned : List Assigned) (n : ℕ) : Type 0 where
  pub there : n ≤ length assigned
  pub each : All (IsSettled k) (take n assigned)

-- the literal stands there, and those before it are settled
pub record IsFirstUnsettled (k : Clauses) (assigned : List Assigned) (n : ℕ) (l : Literal) : Type 0 where
  pub settled : AreSettled k assigned n
  pub is : Assigned
  pub stands : slice_get assigned n ≡ Some is
  pub literal : is.lit ≡ l

-- the id of the clause that forced the literal's variable comes in behind
abbrev pub AppendsReason : BaseState → Literal → List ℕ → List ℕ → Type 0
AppendsReason b l old new =
    (a : Assigned) (place : Place) (c : BaseClause) → assigned_to b.trail.assigned (var_of l) ≡ Some a
    → a.reason ≡ Some place → finite.get b.clauses place.0 ≡ Some c → new ≡ old ++ c.id ∷ []
