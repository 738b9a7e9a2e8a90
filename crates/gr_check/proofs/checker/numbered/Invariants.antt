-- the clauses that are left
use Rattle.std.proofs.Common.{◌≡◌, ◌+◌, drop}
use Rattle.std.specs.FinMap.{empty}
use Rattle.gr_logic.specs.Log.{with_clauses}
use Rattle.gr_check.proofs.checker.numbered.Given as goal

-- the clauses that are left complete the map
abbrev pub invariant-loop-i : goal.invariant-loop-i
invariant-loop-i l =
    with_clauses l.pool (l.i + 1) (drop l.i l.clauses) ≡ with_clauses empty 1 l.clauses
