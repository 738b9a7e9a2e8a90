-- what a search may cite, by the clauses of its database
use Rattle.std.specs.Prelude.{◌≡◌, ◌⊎◌, ◌≤◌, ℕ, nat_lt, List, length, map, All, Some}
use Rattle.std.specs.List.{filter}
use Rattle.std.specs.FinMap as finite
use Rattle.std.specs.FinSet as set
use Rattle.gr_logic.specs.Literals.{Literal}
use Rattle.gr_logic.specs.Formulas.{Cnf}
use Rattle.gr_logic.specs.NormalForms.{IsTautology}
use Rattle.gr_logic.specs.Rup.{members}
use Rattle.gr_logic.specs.Closure.{family_of}
use Rattle.gr_diary.specs.States.{initial_state}
use Rattle.gr_prop.specs.Bases.{BaseClause, Clauses, family}
use Rattle.gr_search.specs.Searches.{HeldClauses}

-- the clauses whose ids are above the formula's, by their ids
abbrev pub held_in : ℕ → Clauses → HeldClauses
held_in last k =
    finite.from_entries
    (map (λ e. (e.1.id, e.1.literals)) (filter (λ e. nat_lt last e.1.id) (finite.entries k)))

-- those whose ids are the formula's are its clauses, and each of its clauses is there but tautologies
pub record Knows (f : Cnf) (k : Clauses) : Type 0 where
  pub cited : (place : ℕ) (c : BaseClause) → finite.get k place ≡ Some c → c.id ≤ length f.clauses
      → family_of (finite.get (initial_state f).live) c.id ≡ Some (set.contains c.literals)
  pub there : All (λ c. IsTautology c ⊎ ((place : ℕ) × (family k place ≡ Some (members c)))) f.clauses

-- each id is the formula's
abbrev pub HasOwnIds : ℕ → Clauses → Type 0
HasOwnIds last k = (place : ℕ) (c : BaseClause) → finite.get k place ≡ Some c → c.id ≤ last

-- the clause is there under an id of the formula's
pub record IsUnderOwnId (last : ℕ) (k : Clauses) (c : List Literal) : Type 0 where
  pub place : ℕ
  pub clause : BaseClause
  pub there : finite.get k place ≡ Some clause
  pub own : clause.id ≤ last
  pub is : set.contains clause.literals ≡ members c

-- what no turn changes: those whose ids are the formula's are its clauses, and each of its clauses is there under
-- such an id but tautologies
pub record HoldsFormula (f : Cnf) (k : Clauses) : Type 0 where
  pub cited : (place : ℕ) (c : BaseClause) → finite.get k place ≡ Some c → c.id ≤ length f.clauses
      → family_of (finite.get (initial_state f).live) c.id ≡ Some (set.contains c.literals)
  pub there : All (λ c. IsTautology c ⊎ IsUnderOwnId (length f.clauses) k c) f.clauses
