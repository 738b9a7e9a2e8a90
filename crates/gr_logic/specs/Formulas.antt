-- formulas in conjunctive normal form
use Rattle.std.specs.Prelude.{ℕ, ◌<◌, ◌≤◌, List, All, length}
use Rattle.gr_logic.specs.Literals.{Literal}

-- a number of variables, and clauses, each a list of literals of which one is to be true
pub record Cnf : Type 0 where
  pub vars : ℕ
  pub clauses : List (List Literal)

-- no variable of the clause is above the number
abbrev pub VarsUpTo : ℕ → List Literal → Type 0
VarsUpTo vars c = All (λ l. l.index < vars) c

-- a formula within the program's limits, whose clauses speak of its own variables alone
pub record IsBounded (f : Cnf) : Type 0 where
  pub vars : f.vars ≤ 1_000_000
  pub clauses : length f.clauses ≤ 5_000_000
  pub within : All (VarsUpTo f.vars) f.clauses
