-- how clauses come into a strengthener's base
use Rattle.std.specs.Prelude.{◌≡◌, ◌≤◌, ℕ, List, Some, None}
use Rattle.std.specs.FinMap as finite
use Rattle.std.specs.FinSet as set
use Rattle.gr_logic.specs.Literals.{Literal}
use Rattle.gr_logic.specs.Formulas.{Cnf}
use Rattle.gr_prop.specs.Bases.{BaseClause, BaseState}
use Rattle.gr_strengthen.specs.Holding.{HasFormula, IsGrounded}

-- a clause came in under an id at level zero
pub record IsEntered (old new : BaseState) (id : ℕ) (c : List Literal) : Type 0 where
  pub place : ℕ
  pub lbd : ℕ
  pub fresh : finite.get old.clauses place ≡ None
  pub clauses : new.clauses
      ≡ finite.insert old.clauses place (record { id = id; lbd = lbd; literals = set.from_list c })
  pub grounded : (f : Cnf) (settled : ℕ) → IsGrounded f old.clauses old.trail settled
      → IsGrounded f new.clauses new.trail settled

-- the base has the formula's first clauses, but for tautologies, and no others
pub record IsLoaded (f : Cnf) (b : BaseState) (count : ℕ) : Type 0 where
  pub formula : HasFormula f b.clauses count
  pub grounded : IsGrounded f b.clauses b.trail 0
  pub low : (place : ℕ) (c : BaseClause) → finite.get b.clauses place ≡ Some c → c.id ≤ count
