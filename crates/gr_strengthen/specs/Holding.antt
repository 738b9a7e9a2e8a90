-- what a strengthener keeps between its calls
use Rattle.std.specs.Prelude.{◌≡◌, ◌⊎◌, ◌≤◌, ℕ, List, [], ◌∷◌, take, length, All, Some, slice_get}
use Rattle.std.specs.FinMap as finite
use Rattle.std.specs.FinSet as set
use Rattle.gr_logic.specs.Literals.{Literal}
use Rattle.gr_logic.specs.Formulas.{Cnf}
use Rattle.gr_logic.specs.Rup.{members}
use Rattle.gr_logic.specs.Closure.{family_of}
use Rattle.gr_logic.specs.NormalForms.{IsTautology}
use Rattle.gr_logic.specs.declared.places.Place.{Place}
use Rattle.gr_trail.specs.Trails.{Assigned, TrailState}
use Rattle.gr_prop.specs.Bases.{BaseClause, Clauses, HasId, family}
use Rattle.gr_prop.specs.BaseChanges.{IsForcedAt}
use Rattle.gr_strengthen.specs.Families.{given_clause}
use Rattle.gr_hints.specs.Graphs.{IsFalse}

-- the literal's reason is its unit clause
abbrev pub HasUnitReason : Clauses → Assigned → Type 0
HasUnitReason clauses a =
    (place : Place) × (a.reason ≡ Some place) × (family clauses place.0 ≡ Some (members (a.lit ∷ [])))

-- the literal is true by its unit clause
abbrev pub IsSettled : Clauses → List Assigned → Literal → Type 0
IsSettled clauses assigned l =
    (k : ℕ) × (a : Assigned) × (slice_get assigned k ≡ Some a) × (a.lit ≡ l) × HasUnitReason clauses a

-- each unit clause is false, or its literal is true by a unit clause
abbrev pub AreSettled : Clauses → List Assigned → Type 0
AreSettled clauses assigned =
    (place : ℕ) (l : Literal) → family clauses place ≡ Some (members (l ∷ []))
    → IsFalse assigned l ⊎ IsSettled clauses assigned l

-- the base has the formula's first clauses under their ids but for tautologies, and no others under the formula's ids;
-- no two clauses have one id
pub record HasFormula (f : Cnf) (clauses : Clauses) (count : ℕ) : Type 0 where
  pub given : (place : ℕ) (c : BaseClause) → finite.get clauses place ≡ Some c → c.id ≤ length f.clauses
      → family_of (given_clause f) c.id ≡ Some (set.contains c.literals)
  pub ids : (p q : ℕ) (c d : BaseClause) → finite.get clauses p ≡ Some c → finite.get clauses q ≡ Some d
      → c.id ≡ d.id → p ≡ q
  pub there : (id : ℕ) (c : List Literal) → id ≤ count → given_clause f id ≡ Some c → IsTautology c ⊎ HasId clauses id

-- the base stands at level zero, and the first literals of its trail have their unit clauses as reasons
pub record IsGrounded (f : Cnf) (clauses : Clauses) (t : TrailState) (settled : ℕ) : Type 0 where
  pub ground : t.depth ≡ 0
  pub vars : t.vars ≡ f.vars
  pub low : All (IsForcedAt 0) t.assigned
  pub units : AreSettled clauses t.assigned
  pub within : settled ≤ length t.assigned
  pub done : All (HasUnitReason clauses) (take settled t.assigned)

-- what a strengthener keeps
pub record IsHolding (f : Cnf) (clauses : Clauses) (t : TrailState) (settled forced decided : ℕ) : Type 0 where
  pub formula : HasFormula f clauses (length f.clauses)
  pub grounded : IsGrounded f clauses t settled
  pub forced' : forced ≡ f.vars
  pub decided' : decided ≡ f.vars
