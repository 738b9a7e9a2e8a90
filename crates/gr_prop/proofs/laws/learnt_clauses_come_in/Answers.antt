use Rattle.gr_prop.proofs.Learned.{addable}
use Rattle.gr_prop.proofs.laws.learnt_clauses_come_in.Goals as goal

pub returns : goal.returns
returns c = addable
