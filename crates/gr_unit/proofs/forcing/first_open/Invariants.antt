use Rattle.std.proofs.Common.{take}
use Rattle.gr_logic.specs.Rup.{members}
use Rattle.gr_unit.specs.Forcing.{AreAllFalse}
use Rattle.gr_unit.proofs.forcing.first_open.Given as goal

abbrev pub invariant-loop-lit : goal.invariant-loop-lit
invariant-loop-lit l = AreAllFalse (members l.derived) (take l.lit-index l.lits)
