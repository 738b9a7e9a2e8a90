use Rattle.gr_unit.proofs.Outcomes.{greedy-ends}
use Rattle.gr_unit.proofs.laws.greedy_has_an_outcome.Goals as goal

pub returns : goal.returns
returns c = greedy-ends
