use Rattle.gr_work.proofs.Best.{only_best}
use Rattle.gr_work.proofs.laws.no_other_is_best.Goals as goal

pub returns : goal.returns
returns c = only_best
