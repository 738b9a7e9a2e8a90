-- the rounds of propagation over a formula's clauses
use Rattle.std.specs.Prelude.{◌≡◌, ◌⊎◌, ◌≤◌, ℕ, List, [], ◌∷◌, ◌++◌, Option, Some, None, is_some, if◌then◌else◌}
use Rattle.std.specs.FinMap as finite
use Rattle.std.specs.FinSet as set
use Rattle.gr_logic.specs.Literals.{Literal}
use Rattle.gr_logic.specs.NormalForms.{IsTautology, first_occurrences}
use Rattle.gr_logic.specs.declared.places.Place.{Place}
use Rattle.gr_trail.specs.Trails.{Assigned, value_in}
use Rattle.gr_prop.specs.Bases.{BaseClause, BaseState, Clauses, decisions}
use Rattle.gr_prop.specs.BaseChanges.{Ends, IsAdded}
use Rattle.gr_prop.specs.declared.bases.Propagated.TheVariants.{Quiet, Conflict}

-- the clause came in, each literal where it stands first; one that every assignment satisfies was left out
abbrev pub IsTakenUnder : BaseState → BaseState → ℕ → List Literal → Type 0
IsTakenUnder old new id c =
    (IsTautology c × (new ≡ old)) ⊎ ((place : Place) × IsAdded old new id 1 (first_occurrences c) place)

-- the base has the clause
pub record IsHeld (clauses : Clauses) (c : List Literal) : Type 0 where
  pub place : ℕ
  pub clause : BaseClause
  pub there : finite.get clauses place ≡ Some clause
  pub literals : clause.literals ≡ set.from_list (first_occurrences c)

-- every assignment satisfies the clause, or the base has it
abbrev pub IsTaken : Clauses → List Literal → Type 0
IsTaken clauses c = IsTautology c ⊎ IsHeld clauses c

-- no clause has an id above the number
abbrev pub HasIdsUpTo : ℕ → Clauses → Type 0
HasIdsUpTo n clauses = (place : ℕ) (b : BaseClause) → finite.get clauses place ≡ Some b → b.id ≤ n

-- how propagation ended: the trail is the closure, or a clause is false
abbrev pub EndsAs : Option Place → BaseState → Type 0
EndsAs None b = Ends Quiet b
EndsAs (Some place) b = Ends (Conflict place) b

-- the decisions, with this one behind them where its variable has no value
abbrev pub decided : List Assigned → Literal → List Literal
decided assigned l =
    if is_some (value_in assigned l) then decisions assigned else decisions assigned ++ l ∷ []
