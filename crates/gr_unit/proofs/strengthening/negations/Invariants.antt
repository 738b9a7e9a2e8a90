use Rattle.std.proofs.Common.{◌≡◌, map, take}
use Rattle.gr_logic.specs.Literals.{negation}
use Rattle.gr_unit.proofs.strengthening.negations.Given as goal

abbrev pub invariant-loop-lit : goal.invariant-loop-lit
invariant-loop-lit l = l.negated.items ≡ map negation (take l.lit-index l.lits)
