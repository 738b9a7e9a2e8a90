use Rattle.gr_logic.proofs.LogSound.{accepts-sound}
use Rattle.gr_logic.proofs.laws.accepted_logs_refute.Goals as goal

pub returns : goal.returns
returns c = accepts-sound
