-- what strengthening answers: a part of a clause, or a unit, that unit steps along hints accept
use Rattle.std.specs.Prelude.{◌≡◌, ◌⊎◌, ℕ, nat_eq, if◌then◌else◌, List, [], ◌∷◌, All, Option, Some, None, IsSome}
use Rattle.gr_logic.specs.Literals.{Literal}
use Rattle.gr_logic.specs.Formulas.{VarsUpTo}
use Rattle.gr_logic.specs.NormalForms.{IsNormal}
use Rattle.gr_logic.specs.Rup.{Live, members, rup, Accepted}
use Rattle.gr_logic.specs.Closure.{ClauseFamily, family_of, no_literals, IsWithin, InClosure, DerivesConflict}
use Rattle.gr_logic.specs.Greedy.{GreedyKeeps}
use Rattle.gr_logic.specs.declared.items.Strengthened.{Strengthened}
use Rattle.gr_logic.specs.declared.items.Strengthened.TheVariants.{Same, Shorter}
use Rattle.gr_strengthen.specs.declared.units.Derived.{Derived}

-- the family with a clause under an id
abbrev pub with_taken : ClauseFamily → ℕ → List Literal → ClauseFamily
with_taken k id whole hint = if nat_eq hint id then Some (members whole) else k hint

-- the literals are of different known variables, and unit steps along the hints accept them over each look-up that has
-- the family's clauses, as sets, under these ids
pub record IsJustified (k : ClauseFamily) (vars : ℕ) (c : List Literal) (hints : List ℕ) : Type 0 where
  pub normal : IsNormal c
  pub known : VarsUpTo vars c
  pub cited : All (λ id. IsSome (k id)) hints
  pub accepted : (live : Live) → All (λ id. family_of live id ≡ k id) hints → rup live c hints ≡ Accepted

-- greedy strengthening keeps all of the clause
abbrev pub KeepsAll : ClauseFamily → List Literal → Type 0
KeepsAll k whole = (kept : List Literal) × GreedyKeeps k whole kept × IsWithin (members whole) (members kept)

-- a proper part of the clause, within what greedy strengthening keeps of it
pub record IsShortened (k : ClauseFamily) (whole c : List Literal) : Type 0 where
  pub part : IsWithin (members c) (members whole)
  pub proper : ¬ IsWithin (members whole) (members c)
  pub kept : List Literal
  pub greedy : GreedyKeeps k whole kept
  pub within : IsWithin (members c) (members kept)

-- what strengthening by the family says of the clause that was taken under an id: its own literals are enough only
-- where greedy strengthening keeps all; the hints of a shorter one may name it
abbrev pub IsStrengthened : ClauseFamily → ℕ → ℕ → List Literal → Strengthened → Type 0
IsStrengthened k vars id whole Same = KeepsAll k whole
IsStrengthened k vars id whole (Shorter c hints) =
    IsShortened k whole c × IsJustified (with_taken k id whole) vars c hints

-- the family has the literal as a clause
abbrev pub HasUnit : ClauseFamily → Literal → Type 0
HasUnit k l = (id : ℕ) × (k id ≡ Some (members (l ∷ [])))

-- there is a conflict, or each literal of the unit closure is by itself a clause
abbrev pub HasItsUnits : ClauseFamily → Type 0
HasItsUnits k =
    DerivesConflict k no_literals ⊎ ((l : Literal) → InClosure k no_literals l → HasUnit k l)

-- a literal of the unit closure, which is no conflict, that is by itself no clause
pub record IsMissingUnit (k : ClauseFamily) (vars : ℕ) (unit : Derived) : Type 0 where
  pub calm : ¬ DerivesConflict k no_literals
  pub derived : InClosure k no_literals unit.lit
  pub missing : ¬ HasUnit k unit.lit
  pub justified : IsJustified k vars (unit.lit ∷ []) unit.hints

-- a unit that is missing, or none is
abbrev pub IsNextUnit : ClauseFamily → ℕ → Option Derived → Type 0
IsNextUnit k vars None = HasItsUnits k
IsNextUnit k vars (Some unit) = IsMissingUnit k vars unit
