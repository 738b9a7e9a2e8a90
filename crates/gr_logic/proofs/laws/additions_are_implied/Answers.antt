use Rattle.gr_logic.proofs.LogSound.{additions-implied}
use Rattle.gr_logic.proofs.laws.additions_are_implied.Goals as goal

pub returns : goal.returns
returns c = additions-implied
