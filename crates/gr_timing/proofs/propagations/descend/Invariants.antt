use Rattle.std.proofs.Common.{◌≡◌, None}
use Rattle.gr_timing.specs.Rounds.{EndsAs}
use Rattle.gr_timing.proofs.propagations.descend.Given as goal

abbrev pub invariant-loop-draw : goal.invariant-loop-draw
invariant-loop-draw l = record {
  clauses : l.base.clauses ≡ l.fn.base.clauses;
  vars : l.base.trail.vars ≡ l.fn.base.trail.vars;
  ended : EndsAs None l.base;
}
