use Rattle.gr_check.proofs.Reached.{reached-refutes}
use Rattle.gr_check.proofs.laws.reached_states_refute.Goals as goal

pub returns : goal.returns
returns c = reached-refutes
