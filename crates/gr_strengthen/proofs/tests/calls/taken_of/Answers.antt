use Rattle.std.proofs.Common.{sym, subst}
use Rattle.gr_logic.specs.NormalForms.{IsNormal}
use Rattle.gr_logic.proofs.FirstOccurrences.{normal-forms}
use Rattle.gr_strengthen.proofs.tests.calls.taken_of.Goals as goal

pub returns-clause-normal : goal.returns-clause-normal
returns-clause-normal c =
    let h = rw c.in-Clause.is at c.in_ok-clause.ensures in
    subst IsNormal (sym h.1) (normal-forms _ h.0).0
