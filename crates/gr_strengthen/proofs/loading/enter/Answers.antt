use Rattle.std.proofs.Common.{sym, ◌∙◌}
use Rattle.gr_strengthen.proofs.Loaded.{entered-added, entered-settled}
use Rattle.gr_strengthen.proofs.loading.enter.Goals as goal

pub returns-in_ok-settle-in-Some : goal.returns-in_ok-settle-in-Some
returns-in_ok-settle-in-Some c =
    entered-settled c.args.base.now c.settle.new.self c.args.id c.in-Some.lit c.args.clause.now
    c.in_ok-settle-in-Some.field-0 c.in_ok-settle-in-Some.ensures c.true_unit.ensures.is_trail
    (sym c.lits.ensures ∙ c.in-Some.ensures.some.0) c.in-Some.ensures.some.1

pub returns-in_ok-add-in-None : goal.returns-in_ok-add-in-None
returns-in_ok-add-in-None c =
    entered-added c.args.base.now c.add.new.self c.args.id _ c.args.clause.now c.in_ok-add-in-None.field-0
    c.in_ok-add-in-None.ensures c.requires.normal
    (λ l is holds. c.in-None.ensures.none l (c.lits.ensures ∙ is) holds)
