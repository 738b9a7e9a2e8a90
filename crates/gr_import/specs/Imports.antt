-- how a clause comes in for another one
use Rattle.std.specs.Prelude.{◌≡◌, ◌≢◌, ◌⊎◌, ℕ, min, List, length, All, Option, Some, None}
use Rattle.std.specs.FinMap as finite
use Rattle.gr_logic.specs.Literals.{Literal}
use Rattle.gr_logic.specs.declared.places.Place.{Place}
use Rattle.gr_prop.specs.Bases.{BaseState, BaseClause, Clauses, LacksId, HasIdAt}
use Rattle.gr_prop.specs.BaseChanges.{IsAdded}

-- no literal of the trail has the id's clause as its reason
abbrev pub IsNoReason : BaseState → ℕ → Type 0
IsNoReason b id = (p : Place) → HasIdAt b.clauses id p → All (λ a. a.reason ≢ Some p) b.trail.assigned

-- the id is no reason, if there is one
abbrev pub MayGo : BaseState → Option ℕ → Type 0
MayGo b None = Unit {0}
MayGo b (Some id) = IsNoReason b id

-- the clauses without the one at a place, and its LBD where that is less
abbrev pub IsWithout : Clauses → ℕ → ℕ → Clauses → ℕ → Type 0
IsWithout k id len left lbd =
    (place : Place) × (c : BaseClause) × (finite.get k place.0 ≡ Some c) × (c.id ≡ id)
    × (left ≡ finite.remove k place.0) × (lbd ≡ min len c.lbd)

-- what is left of the clauses, and the LBD of a clause of this length that comes in for the old one: its length, or the
-- old one's LBD where that is less
abbrev pub Leaves : Clauses → Option ℕ → ℕ → Clauses → ℕ → Type 0
Leaves k None len left lbd = (left ≡ k) × (lbd ≡ len)
Leaves k (Some id) len left lbd = IsWithout k id len left lbd ⊎ (LacksId k id × ((left ≡ k) × (lbd ≡ len)))

-- the clause comes in for the old one
pub record IsImported (b d : BaseState) (old : Option ℕ) (id : ℕ) (c : List Literal) : Type 0 where
  pub left : Clauses
  pub lbd : ℕ
  pub place : Place
  pub leaves : Leaves b.clauses old (length c) left lbd
  pub added : IsAdded (record b { clauses = left }) d id lbd c place
