use Rattle.std.proofs.Common.{◌∙◌, sym, ap}
use Rattle.std.specs.FinSet as set
use Rattle.gr_logic.specs.Rup.{members}
use Rattle.gr_logic.proofs.FiniteSets.{contains-empty}
use Rattle.gr_unit.proofs.derivations.Derived.new.Goals as goal

pub invariant_of-result : goal.invariant_of-result
invariant_of-result c = ap set.contains c.new-2.ensures ∙ contains-empty ∙ ap members (sym c.new.ensures.items)
