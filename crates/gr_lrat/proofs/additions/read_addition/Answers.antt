use Rattle.gr_lrat.proofs.additions.read_addition.Goals as goal

pub returns-in-Some-clause-tells : goal.returns-in-Some-clause-tells
returns-in-Some-clause-tells g c = rw c.in-Some.is c.read_literals.ensures.tells

pub returns-in-None-clause-tells : goal.returns-in-None-clause-tells
returns-in-None-clause-tells g c = rw c.in-None.is c.pass_as.ensures.tells
