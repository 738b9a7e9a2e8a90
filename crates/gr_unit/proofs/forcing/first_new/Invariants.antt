use Rattle.std.proofs.Common.{◌≡◌, true, take}
use Rattle.gr_logic.specs.Literals.{Literal}
use Rattle.gr_logic.specs.Rup.{members}
use Rattle.gr_unit.proofs.forcing.first_new.Given as goal

abbrev pub invariant-loop-lit : goal.invariant-loop-lit
invariant-loop-lit l = (q : Literal) → members (take l.lit-index l.lits) q ≡ true → members l.derived q ≡ true
