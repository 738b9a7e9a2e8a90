-- the laws of unit steps and of logs
use Rattle.std.specs.Prelude.{◌≡◌, ℕ, Bool, List, Some, None, All}
use Rattle.gr_logic.specs.Literals.{Literal}
use Rattle.gr_logic.specs.Truth.{Meets, Implied, IsUnsatisfiable}
use Rattle.gr_logic.specs.Rup.{Live, rup, Accepted}
use Rattle.gr_logic.specs.Formulas.{Cnf}
use Rattle.gr_logic.specs.Log.{refusal, clauses_added, Accepts}
use Rattle.gr_logic.specs.declared.lines.Line.{Line}

-- the assignment satisfies every clause of the map
abbrev pub MeetsLive : List Bool → Live → Type 0
MeetsLive a live = (id : ℕ) (c : List Literal) → live id ≡ Some c → Meets a c

-- what the unit steps accept is satisfied wherever the map's clauses are
abbrev pub UnitStepsAreSound : Type 0
UnitStepsAreSound =
    (live : Live) (c : List Literal) (hints : List ℕ) → rup live c hints ≡ Accepted
    → (a : List Bool) → MeetsLive a live → Meets a c

-- where no line of a log is refused, each clause that it adds is implied by the formula
abbrev pub AdditionsAreImplied : Type 0
AdditionsAreImplied =
    (f : Cnf) (lines : List Line) → refusal f lines ≡ None → All (Implied f.clauses) (clauses_added lines)

-- no assignment satisfies a formula that has an accepted log
abbrev pub AcceptedLogsRefute : Type 0
AcceptedLogsRefute = (f : Cnf) (lines : List Line) → Accepts f lines → IsUnsatisfiable f.clauses
