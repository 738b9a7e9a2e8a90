use Rattle.gr_logic.proofs.Sound.{rup-sound}
use Rattle.gr_logic.proofs.laws.unit_steps_are_sound.Goals as goal

pub returns : goal.returns
returns c = rup-sound
