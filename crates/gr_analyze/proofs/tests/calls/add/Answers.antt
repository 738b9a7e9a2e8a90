use Rattle.std.proofs.Common.{sym, subst}
use Rattle.gr_logic.specs.NormalForms.{IsNormal}
use Rattle.gr_logic.proofs.FirstOccurrences.{normal-forms}
use Rattle.gr_analyze.proofs.tests.calls.add.Goals as goal

pub add-requires-clause-normal : goal.add-requires-clause-normal
add-requires-clause-normal c =
    let h = rw c.in-Clause.is at c.in_ok-clause.ensures in
    subst IsNormal (sym h.1) (normal-forms _ h.0).0
