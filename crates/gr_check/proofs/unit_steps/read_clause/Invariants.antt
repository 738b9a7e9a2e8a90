-- what was found of the clause so far
use Rattle.std.proofs.Common.{◌≡◌, ◌<◌, drop}
use Rattle.std.specs.Prelude.{IfSome}
use Rattle.gr_logic.specs.Rup.{reading, members}
use Rattle.gr_check.proofs.Reading.{from_here}
use Rattle.gr_check.proofs.unit_steps.read_clause.Given as goal

abbrev pub invariant-loop-lit : goal.invariant-loop-lit
invariant-loop-lit l = record {
  -- the literals that are left say, with what was found, what the clause says
  same_reading : from_here (members l.marks.list) l.open (drop l.lit-index l.lits)
      ≡ reading (members l.marks.list) l.lits;
  within : IfSome l.open (λ first. first.index < l.marks.vars);
}
