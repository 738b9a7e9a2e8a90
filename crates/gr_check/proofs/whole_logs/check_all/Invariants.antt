-- the lines that are left
use Rattle.std.proofs.Common.{◌≡◌, ◌+◌, drop}
use Rattle.gr_logic.specs.Log.{opening, refusal, refusal_from, state_after}
use Rattle.gr_check.proofs.whole_logs.check_all.Given as goal

-- the lines that are left say of the state so far what all of them say of the formula
abbrev pub invariant-loop-i : goal.invariant-loop-i
invariant-loop-i l = record {
  same_refusal : refusal_from (l.i + 1) l.checker (drop l.i l.lines) ≡ refusal l.formula l.lines;
  same_end : state_after l.checker (drop l.i l.lines) ≡ state_after (opening l.formula) l.lines;
}
