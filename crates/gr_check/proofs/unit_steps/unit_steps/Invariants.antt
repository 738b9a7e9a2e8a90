-- the marks and the hints that are left
use Rattle.std.proofs.Common.{◌≡◌, take, drop}
use Rattle.std.specs.FinMap.{get}
use Rattle.gr_logic.specs.Rup.{rup, steps, members, negated}
use Rattle.gr_check.proofs.unit_steps.unit_steps.Given as goal

abbrev pub invariant-loop-lit : goal.invariant-loop-lit
invariant-loop-lit l = record {
  same_vars : l.marks.vars ≡ l.fn.marks.vars;
  marked : members l.marks.list ≡ negated (take l.lit-index l.lemma);
}

abbrev pub invariant-loop-i : goal.invariant-loop-i
invariant-loop-i l = record {
  same_vars : l.marks.vars ≡ l.fn.marks.vars;
  -- the hints that are left say what all of them say of the lemma
  same_answer : steps (get l.pool) (members l.marks.list) (drop l.i l.hints)
      ≡ rup (get l.pool) l.lemma l.hints;
}
