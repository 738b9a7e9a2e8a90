-- what the lines that are left say of a whole log
use Rattle.std.proofs.Common.{◌≡◌, ℕ, List, refl}
use Rattle.gr_logic.specs.Formulas.{Cnf}
use Rattle.gr_logic.specs.Log.{LogState, opening, refusal, refusal_from, state_after}
use Rattle.gr_logic.specs.declared.lines.Line.{Line}

-- the lines that are left say of the state so far what all of them say of the formula
pub record IsLeft (f : Cnf) (all : List Line) (s : LogState) (rest : List Line) : Type 0 where
  -- the number of the next line
  pub number : ℕ
  pub same_refusal : refusal_from number s rest ≡ refusal f all
  pub same_end : state_after s rest ≡ state_after (opening f) all

-- before the first line
pub left-at-first : (f : Cnf) (all : List Line) → IsLeft f all (opening f) all
left-at-first f all = record { number = 1; same_refusal = refl; same_end = refl }
