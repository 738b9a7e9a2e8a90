use Rattle.std.proofs.Common.{◌∙◌, sym}
use Rattle.gr_unit.proofs.Conflicts.{conflict-is}
use Rattle.gr_unit.proofs.closing.bottom.Goals as goal

pub returns : goal.returns
returns c =
    let same = conflict-is c.args.clauses.now c.args.given.now c.in_ok-derived.derived c.in_ok-derived.ensures in
    ((λ is. same.0 (sym c.is_conflict.ensures ∙ is)), (λ conflict. c.is_conflict.ensures ∙ same.1 conflict))
