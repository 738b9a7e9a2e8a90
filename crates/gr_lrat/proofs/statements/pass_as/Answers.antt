use Rattle.gr_lrat.specs.Statements.{spelling_of}
use Rattle.gr_lrat.proofs.statements.pass_as.Goals as goal

pub returns-in-Err-clause-tells : goal.returns-in-Err-clause-tells
returns-in-Err-clause-tells g c = c.in-Err.ensures.tells (spelling_of c.args.spelt)
