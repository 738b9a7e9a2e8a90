use Rattle.gr_lrat.specs.Lines.{deletion_with}
use Rattle.gr_lrat.proofs.statements.read_deletion.Goals as goal

pub returns-then-not-numbered-clause-tells : goal.returns-then-not-numbered-clause-tells
returns-then-not-numbered-clause-tells g c = rw c.if-not-numbered.true c.pass_as.ensures.tells

pub returns-in-Ok-clause-tells : goal.returns-in-Ok-clause-tells
returns-in-Ok-clause-tells g c =
    rw (c.if-not-numbered.false, c.deletion.ensures) (c.in-Ok.ensures.tells (λ list. deletion_with list))

pub returns-in-Err-clause-tells : goal.returns-in-Err-clause-tells
returns-in-Err-clause-tells g c =
    rw c.if-not-numbered.false (c.in-Err.ensures.tells (λ list. deletion_with list))
