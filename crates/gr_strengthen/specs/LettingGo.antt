-- clauses that are let go
use Rattle.std.specs.Prelude.{◌≡◌, ◌≢◌, ◌<◌, ℕ, ◌⊎◌, Bool, false, ◌&&◌, nat_eq, List, [], ◌∷◌, ◌++◌, All, length, AllPairs, Option, Some, None}
use Rattle.std.specs.FinMap as finite
use Rattle.gr_logic.specs.Formulas.{Cnf}
use Rattle.gr_logic.specs.Literals.{Literal, var_of}
use Rattle.gr_logic.specs.declared.places.Place.{Place}
use Rattle.gr_trail.specs.Trails.{Assigned, true_in, assigned_to}
use Rattle.gr_prop.specs.Bases.{BaseClause, BaseState, Clauses}
use Rattle.gr_prop.specs.BaseChanges.{IsCompacted}
use Rattle.gr_strengthen.specs.Families.{KeptClauses, without_ids, IsLongClause, HasTwoLiterals, clauses_above}
use Rattle.gr_strengthen.specs.Holding.{IsHolding}
use Rattle.gr_strengthen.specs.Reaching.{reason_of}

-- the reason is the clause at the place
abbrev pub is_reason : Place → Option Place → Bool
is_reason place None = false
is_reason place (Some reason) = nat_eq reason.0 place.0

-- the literal is true, and the clause at the place its reason
abbrev pub forces : List Assigned → Place → Literal → Bool
forces assigned place l = true_in assigned l && is_reason place (reason_of (assigned_to assigned (var_of l)))

-- these ids of long clauses, ascending, are let go, and all else stays
pub record AreLetGo (old new : KeptClauses) (ids : List ℕ) : Type 0 where
  pub rising : AllPairs (λ a b. a < b) ids
  pub long : All (IsLongClause old) ids
  pub rest : new ≡ without_ids old ids

-- no two clauses have one id
abbrev pub HasUniqueIds : Clauses → Type 0
HasUniqueIds clauses = (p q : ℕ) (c d : BaseClause) → finite.get clauses p ≡ Some c → finite.get clauses q ≡ Some d
    → c.id ≡ d.id → p ≡ q

-- the clause at the place has at least two literals, and is no literal's reason
pub record IsUnneeded (b : BaseState) (place : Place) : Type 0 where
  pub long : (c : BaseClause) → finite.get b.clauses place.0 ≡ Some c → HasTwoLiterals c.literals
  pub unneeded : All (λ a. a.reason ≢ Some place) b.trail.assigned

-- so does the clause at the place, and it has the id, which is above the last one of the formula
pub record IsFree (b : BaseState) (last id : ℕ) (place : Place) : Type 0 where
  pub clause : BaseClause
  pub there : finite.get b.clauses place.0 ≡ Some clause
  pub named : clause.id ≡ id
  pub above : last < id
  pub free : IsUnneeded b place

-- the clause of an id stays, or it was removed, and the id is noted
abbrev pub IsPassed : BaseState → BaseState → ℕ → ℕ → List ℕ → List ℕ → Type 0
IsPassed old new last id gone after =
    ((after ≡ gone) × (new ≡ old))
    ⊎ ((after ≡ gone ++ id ∷ []) × (place : Place) × IsFree old last id place
    × (new ≡ record old { clauses = finite.remove old.clauses place.0; conflict = None }))

-- some clauses above the formula's were let go, of those whose ids were looked at
pub record IsLettingGo (start b : BaseState) (last : ℕ) (gone rest : List ℕ) : Type 0 where
  pub let_go : AreLetGo (clauses_above last start.clauses) (clauses_above last b.clauses) gone
  pub coming : AllPairs (λ a b. a < b) rest
  pub below : All (λ id. All (λ other. id < other) rest) gone
  pub part : (place : ℕ) (c : BaseClause) → finite.get b.clauses place ≡ Some c
      → finite.get start.clauses place ≡ Some c
  pub holding : (f : Cnf) (settled forced decided : ℕ) → length f.clauses ≡ last
      → IsHolding f start.clauses start.trail settled forced decided
      → IsHolding f b.clauses b.trail settled forced decided

-- the base stays, or its clauses were moved together
abbrev pub IsMoved : BaseState → BaseState → Type 0
IsMoved old new = (new ≡ old) ⊎ IsCompacted old new
