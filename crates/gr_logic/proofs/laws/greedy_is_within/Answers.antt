use Rattle.gr_logic.proofs.Walks.{greedy-within}
use Rattle.gr_logic.proofs.laws.greedy_is_within.Goals as goal

pub returns : goal.returns
returns c = greedy-within
