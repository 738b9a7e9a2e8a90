use Rattle.gr_logic.proofs.Readings.{rup-sets}
use Rattle.gr_logic.proofs.laws.unit_steps_read_sets.Goals as goal

pub returns : goal.returns
returns c = rup-sets
