use Rattle.std.proofs.Common.{◌≤◌, ◌<◌, ℕ, List, slice_index_or}
use Rattle.gr_logic.specs.Literals.{Literal}
use Rattle.gr_logic.specs.Rup.{members}
use Rattle.gr_unit.specs.Forcing.{HasForced}
use Rattle.gr_unit.proofs.forcing.forced_from.Given as goal

abbrev pub invariant-loop-place : goal.invariant-loop-place
invariant-loop-place l =
    (k : ℕ) (d : List Literal) → l.from ≤ k → k < l.place → HasForced (members l.derived) (slice_index_or l.clauses k d)
