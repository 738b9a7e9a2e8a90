use Rattle.gr_prop.proofs.Founded.{earlier}
use Rattle.gr_prop.proofs.laws.reasons_come_earlier.Goals as goal

pub returns : goal.returns
returns c = earlier
