-- a checker between two lines
use Rattle.std.specs.Prelude.{◌≡◌, ℕ, false, List, [], Some, nat_eq}
use Rattle.std.specs.List.{list_any}
use Rattle.std.specs.FinMap as finite
use Rattle.gr_logic.specs.Literals.{Literal}
use Rattle.gr_logic.specs.Formulas.{VarsUpTo}
use Rattle.gr_logic.specs.Log.{Clauses}
use Rattle.gr_check.specs.Marks.{Marked}

-- each clause of the map speaks of so many variables
abbrev pub AreBounded : ℕ → Clauses → Type 0
AreBounded vars clauses =
    (q : ℕ) (c : List Literal) → finite.get clauses q ≡ Some c → VarsUpTo vars c

-- nothing is marked and no id is leaving, and the clauses speak of the formula's variables alone
pub record IsResting (vars : ℕ) (clauses : Clauses) (marks : Marked) (leaving : List ℕ)
    : Type 0 where
  pub same_vars : marks.vars ≡ vars
  pub unmarked : marks.list ≡ []
  pub none_leaving : (q : ℕ) → list_any (nat_eq q) leaving ≡ false
  pub within : AreBounded vars clauses
