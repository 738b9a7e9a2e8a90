use Rattle.gr_check.proofs.Reached.{opening-reached}
use Rattle.gr_check.proofs.laws.opening_is_reached.Goals as goal

pub returns : goal.returns
returns c = opening-reached
