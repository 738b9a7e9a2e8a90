-- what becomes of a literal in greedy strengthening
use Rattle.std.specs.Prelude.{List}
use Rattle.gr_logic.specs.Literals.{Literal, negation}
use Rattle.gr_logic.specs.Rup.{negated}
use Rattle.gr_logic.specs.Closure.{listed, InClosure, DerivesConflict}
use Rattle.gr_unit.specs.declared.strengthening.Verdict.{Verdict}
use Rattle.gr_unit.specs.declared.strengthening.Verdict.TheVariants.{Enough, LeftOut, Last, Kept}

-- the verdict is the one that the closure of the kept literals' negations gives
abbrev pub IsVerdictOn : List (List Literal) → List Literal → Literal → Verdict → Type 0
IsVerdictOn clauses kept l Enough = DerivesConflict (listed clauses) (negated kept)
IsVerdictOn clauses kept l LeftOut =
    (¬ DerivesConflict (listed clauses) (negated kept)) × InClosure (listed clauses) (negated kept) (negation l)
IsVerdictOn clauses kept l Last =
    (¬ DerivesConflict (listed clauses) (negated kept)) × InClosure (listed clauses) (negated kept) l
IsVerdictOn clauses kept l Kept =
    (¬ DerivesConflict (listed clauses) (negated kept))
    × (¬ InClosure (listed clauses) (negated kept) (negation l))
    × (¬ InClosure (listed clauses) (negated kept) l)
