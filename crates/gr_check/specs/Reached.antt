-- states that accepted lines lead to, for a caller that goes on after a refused line
use Rattle.std.specs.Prelude.{◌≡◌, true, List, None}
use Rattle.gr_logic.specs.Formulas.{Cnf}
use Rattle.gr_logic.specs.Log.{LogState, opening, line_cause, after_line, refusal, state_after}
use Rattle.gr_logic.specs.Truth.{IsUnsatisfiable}
use Rattle.gr_logic.specs.declared.lines.Line.{Line}

-- lines of which none is refused lead from the formula to this state
pub record IsReached (f : Cnf) (s : LogState) : Type 0 where
  pub lines : List Line
  pub accepted : refusal f lines ≡ None
  pub state : state_after (opening f) lines ≡ s

-- no line leads to the state before the first one
abbrev pub OpeningIsReached : Type 0
OpeningIsReached = (f : Cnf) → IsReached f (opening f)

-- a line that is not refused leads on
abbrev pub AcceptedLinesLeadOn : Type 0
AcceptedLinesLeadOn =
    (f : Cnf) (s : LogState) (x : Line) → IsReached f s → line_cause s x ≡ None → IsReached f (after_line s x)

-- where the empty clause was added on the way, no assignment satisfies the formula
abbrev pub ReachedStatesRefute : Type 0
ReachedStatesRefute = (f : Cnf) (s : LogState) → IsReached f s → s.refuted ≡ true → IsUnsatisfiable f.clauses
