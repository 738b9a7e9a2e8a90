use Rattle.std.proofs.Common.{sym, subst}
use Rattle.gr_logic.specs.NormalForms.{IsNormal}
use Rattle.gr_logic.specs.Formulas.{VarsUpTo}
use Rattle.gr_logic.proofs.FirstOccurrences.{normal-forms}
use Rattle.gr_timing.proofs.Taken.{first-within}
use Rattle.gr_timing.proofs.bases.add.Goals as goal

-- the first occurrences have different variables
pub add-requires-clause-normal : goal.add-requires-clause-normal
add-requires-clause-normal c =
    let form = rw c.in-Clause.is at c.in_ok-clause.ensures in
    subst IsNormal (sym form.1) (normal-forms _ form.0).0

-- and none that the clause lacks
pub add-requires-clause-known : goal.add-requires-clause-known
add-requires-clause-known c =
    let form = rw c.in-Clause.is at c.in_ok-clause.ensures in
    subst (VarsUpTo c.args.base.now.trail.vars) (sym form.1)
    (first-within c.args.base.now.trail.vars c.args.clause.now c.requires.known)
