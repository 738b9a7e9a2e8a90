use Rattle.gr_lrat.specs.Lines.{NoList}
use Rattle.gr_lrat.proofs.lists.no_list.Goals as goal

pub returns-in-Err-clause-tells : goal.returns-in-Err-clause-tells
returns-in-Err-clause-tells g c = λ made. c.in-Err.ensures.tells (made NoList)
