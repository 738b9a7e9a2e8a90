use Rattle.std.proofs.Common.{◌∙◌, sym, ap}
use Rattle.std.specs.FinSet as set
use Rattle.gr_logic.specs.Rup.{members, with_literal}
use Rattle.gr_logic.proofs.Members.{members-push}
use Rattle.gr_logic.proofs.FiniteSets.{contains-insert}
use Rattle.gr_unit.proofs.derivations.Derived.with.Goals as goal

pub invariant_of-result : goal.invariant_of-result
invariant_of-result c =
    ap set.contains c.in_ok-add.ensures.ok
    ∙ contains-insert c.self.inside.looked_up c.args.lit
    ∙ ap (λ s. with_literal s c.args.lit) c.self.invariant
    ∙ sym (members-push c.self.inside.lits.items c.args.lit)
    ∙ ap members (sym c.in_ok-push.ensures.items)
