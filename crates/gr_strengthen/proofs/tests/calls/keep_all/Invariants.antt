use Rattle.std.proofs.Common.{◌≡◌, ◌≤◌, ◌<◌, ℕ, None, length}
use Rattle.std.specs.FinMap as finite
use Rattle.gr_strengthen.proofs.tests.calls.keep_all.Given as goal

-- the ids from the next one on are not in use
abbrev pub invariant-loop-clause : goal.invariant-loop-clause
invariant-loop-clause l = record {
  formula : l.strengthener.formula ≡ l.initial.strengthener.formula;
  vars : l.strengthener.formula.vars ≡ 6;
  above : length l.initial.strengthener.formula.clauses < l.next;
  unused : (id : ℕ) → l.next ≤ id → finite.get l.strengthener.kept id ≡ None;
}
