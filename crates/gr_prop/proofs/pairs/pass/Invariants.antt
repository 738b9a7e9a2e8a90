-- the literals before the index passed
use Rattle.std.proofs.Common.{◌-◌}
use Rattle.gr_prop.specs.BaseChanges.{IsGrown}
use Rattle.gr_prop.specs.Pairing.{ArePassing}
use Rattle.gr_prop.proofs.pairs.pass.Given as goal

abbrev pub invariant-loop-index : goal.invariant-loop-index
invariant-loop-index l = record {
  passing : ArePassing l.arena.clauses l.trail l.pairs l.index;
  grown : IsGrown l.fn.trail l.trail;
}

abbrev pub decreases-loop-index : goal.decreases-loop-index
decreases-loop-index l = l.trail.vars - l.index
