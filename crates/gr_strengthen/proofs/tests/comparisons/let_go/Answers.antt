use Rattle.std.proofs.Common.{ap, ◌∙◌}
use Rattle.std.specs.FinMap as finite
use Rattle.gr_strengthen.specs.Families.{KeptClauses}
use Rattle.gr_strengthen.proofs.Unkept.{unkept-without}
use Rattle.gr_strengthen.proofs.tests.comparisons.let_go.Goals as goal

pub returns-clause-unused : goal.returns-clause-unused
returns-clause-unused c =
    ap (λ (kept : KeptClauses). finite.get kept c.args.next) c.in_ok-let_go_half.ensures.kept.rest
    ∙ unkept-without c.args.strengthener.now.kept c.in_ok-let_go_half.field-0 c.args.next c.requires
