use Rattle.gr_work.proofs.Best.{best_is}
use Rattle.gr_work.proofs.laws.best_is_best.Goals as goal

pub returns : goal.returns
returns c = best_is
