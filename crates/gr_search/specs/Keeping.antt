-- what holds of the clauses and the trail between the steps of a search
use Rattle.std.specs.Prelude.{◌≡◌, ◌≤◌, ℕ, Bool, true, List, [], ◌∷◌, length, take, All, Some}
use Rattle.std.specs.FinMap as finite
use Rattle.std.specs.FinSet as set
use Rattle.gr_logic.specs.Literals.{Literal}
use Rattle.gr_logic.specs.Formulas.{VarsUpTo}
use Rattle.gr_logic.specs.NormalForms.{IsNormal}
use Rattle.gr_logic.specs.Rup.{LiteralSet, Live, members, rup, Accepted}
use Rattle.gr_logic.specs.Closure.{IsWithin}
use Rattle.gr_logic.specs.Truth.{Meets, literal_true}
use Rattle.gr_logic.specs.declared.places.Place.{Place}
use Rattle.gr_trail.specs.Trails.{Assigned, TrailState}
use Rattle.gr_prop.specs.Bases.{BaseClause, Clauses, HasId, family}
use Rattle.gr_analyze.specs.Learning.{Cites}
use Rattle.gr_search.specs.Deciding.{HoldsOpen}

-- a literal of level zero whose reason is its unit clause, which is never forgotten
pub record IsSettled (k : Clauses) (a : Assigned) : Type 0 where
  pub ground : a.level ≡ 0
  pub place : Place
  pub clause : BaseClause
  pub reason : a.reason ≡ Some place
  pub there : finite.get k place.0 ≡ Some clause
  pub unit : set.contains clause.literals ≡ members (a.lit ∷ [])
  pub low : clause.lbd ≤ 2

-- so many literals are settled, and each variable without a value may be decided
pub record IsKept (vars : ℕ) (k : Clauses) (t : TrailState) (settled : ℕ) (present : List Bool) : Type 0 where
  pub sized : t.vars ≡ vars
  pub few : vars ≤ 1000000
  pub known : length present ≡ vars
  pub undecided : HoldsOpen present t.assigned
  pub there : settled ≤ length t.assigned
  pub each : All (IsSettled k) (take settled t.assigned)

-- unit steps along the hints, which are ids of the clauses, accept a clause of different variables
pub record IsProved (k : Clauses) (vars : ℕ) (c : List Literal) (hints : List ℕ) : Type 0 where
  pub normal : IsNormal c
  pub within : VarsUpTo vars c
  pub cited : All (HasId k) hints
  pub accepted : (live : Live) → Cites live k → rup live c hints ≡ Accepted

-- no clause is a part of this one
abbrev pub IsNewTo : Clauses → List Literal → Type 0
IsNewTo k c = (place : ℕ) (d : LiteralSet) → family k place ≡ Some d → IsWithin d (members c) → ⊥

-- the assignment makes each literal of the trail true
abbrev pub MakesTrue : List Bool → List Assigned → Type 0
MakesTrue model assigned = All (λ a. literal_true model a.lit ≡ true) assigned

-- an assignment of the variables that satisfies each clause
pub record IsModelOf (k : Clauses) (vars : ℕ) (model : List Bool) : Type 0 where
  pub sized : length model ≡ vars
  pub meets : (place : ℕ) (c : List Literal) → family k place ≡ Some (members c) → VarsUpTo vars c → Meets model c
