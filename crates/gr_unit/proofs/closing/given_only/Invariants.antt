use Rattle.std.proofs.Common.{◌≡◌, take}
use Rattle.gr_unit.proofs.closing.given_only.Given as goal

abbrev pub invariant-loop-lit : goal.invariant-loop-lit
invariant-loop-lit l = l.derived ≡ take l.lit-index l.given
