-- sets of literals over a number of variables
use Rattle.std.specs.Prelude.{◌≡◌, ℕ, ◌*◌, ◌≤◌, ◌<◌, Bool, false, List, length, All, slice_index_or}
use Rattle.gr_logic.specs.Literals.{Literal}
use Rattle.gr_logic.specs.Codes.{code_of}
use Rattle.gr_logic.specs.Rup.{members}

-- a number of variables, and the literals in the set
pub record Marked : Type 0 where
  pub vars : ℕ
  pub list : List Literal

-- the flags, one for each literal's code, tell which literals the list has
pub record IsMarked (vars : ℕ) (flags : List Bool) (list : List Literal) : Type 0 where
  pub room : length flags ≡ 2 * vars
  pub small : vars ≤ 1_000_000
  pub within : All (λ l. l.index < vars) list
  pub tells : (l : Literal) → slice_index_or flags (code_of l) false ≡ members list l
