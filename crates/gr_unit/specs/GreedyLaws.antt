-- a law of greedy strengthening over lists of clauses
use Rattle.std.specs.Prelude.{List}
use Rattle.gr_logic.specs.Literals.{Literal}
use Rattle.gr_logic.specs.Closure.{listed}
use Rattle.gr_logic.specs.Greedy.{GreedyKeeps}

-- greedy strengthening of a clause by a list of clauses has an outcome
abbrev pub GreedyHasAnOutcome : Type 0
GreedyHasAnOutcome =
    (clauses : List (List Literal)) (c : List Literal)
    → (outcome : List Literal) × GreedyKeeps (listed clauses) c outcome
