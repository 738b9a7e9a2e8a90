use Rattle.gr_logic.proofs.Readings.{rup-hints}
use Rattle.gr_logic.proofs.laws.unit_steps_read_hints.Goals as goal

pub returns : goal.returns
returns c = rup-hints
