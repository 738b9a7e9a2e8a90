use Rattle.std.proofs.Common.{List, drop}
use Rattle.gr_logic.specs.Literals.{Literal}
use Rattle.gr_logic.specs.Closure.{listed}
use Rattle.gr_logic.specs.Greedy.{WalkKeeps, GreedyKeeps}
use Rattle.gr_unit.proofs.strengthening.strengthened.Given as goal

-- what the walk keeps from here on, it keeps of the whole
abbrev pub invariant-loop-lit : goal.invariant-loop-lit
invariant-loop-lit l =
    (outcome : List Literal) → WalkKeeps (listed l.clauses) l.kept (drop l.lit-index l.lits) outcome
    → GreedyKeeps (listed l.clauses) l.lits outcome
