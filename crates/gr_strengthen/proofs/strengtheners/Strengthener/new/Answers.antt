use Rattle.std.proofs.Common.{ap}
use Rattle.gr_strengthen.specs.Families.{KeptClauses}
use Rattle.gr_strengthen.specs.Strengtheners.{StrengthenerState}
use Rattle.gr_strengthen.proofs.Methods.{new-kept}
use Rattle.gr_strengthen.proofs.strengtheners.Strengthener.new.Goals as goal

pub returns : goal.returns
returns c =
    let f = c.args.formula.now in
    let view : KeptClauses → StrengthenerState = λ k. record { formula = f; kept = k } in
    ap view (new-kept f c.in_ok-base.base c.in_ok-base.ensures)
