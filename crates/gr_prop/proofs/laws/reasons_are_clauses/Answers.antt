use Rattle.gr_prop.proofs.Founded.{reason-there}
use Rattle.gr_prop.proofs.laws.reasons_are_clauses.Goals as goal

pub returns : goal.returns
returns c = reason-there
