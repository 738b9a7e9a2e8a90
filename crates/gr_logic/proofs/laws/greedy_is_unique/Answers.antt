use Rattle.gr_logic.proofs.Walks.{greedy-unique}
use Rattle.gr_logic.proofs.laws.greedy_is_unique.Goals as goal

pub returns : goal.returns
returns c = greedy-unique
