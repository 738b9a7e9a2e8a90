-- the literals that are still to be taken back
use Rattle.std.proofs.Common.{◌≡◌, length, drop}
use Rattle.gr_trail.specs.Columns.{cleared}
use Rattle.gr_trail.proofs.trails.clear.Given as goal

abbrev pub invariant-loop-lit : goal.invariant-loop-lit
invariant-loop-lit l = record {
  long : length l.values.items ≡ length l.fn.values.items;
  left : cleared l.values.items (drop l.lit-index l.lits) ≡ cleared l.fn.values.items l.lits;
}
