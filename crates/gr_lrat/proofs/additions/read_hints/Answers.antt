use Rattle.gr_lrat.specs.Lines.{addition_with}
use Rattle.gr_lrat.proofs.additions.read_hints.Goals as goal

pub returns-in-Ok-clause-tells : goal.returns-in-Ok-clause-tells
returns-in-Ok-clause-tells g c =
    rw c.addition.ensures (c.in-Ok.ensures.tells (λ list. addition_with c.args.id c.args.clause list))

pub returns-in-Err-clause-tells : goal.returns-in-Err-clause-tells
returns-in-Err-clause-tells g c =
    c.in-Err.ensures.tells (λ list. addition_with c.args.id c.args.clause list)
