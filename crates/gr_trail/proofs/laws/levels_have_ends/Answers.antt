use Rattle.gr_trail.proofs.Climbing.{level-ends}
use Rattle.gr_trail.proofs.laws.levels_have_ends.Goals as goal

pub returns : goal.returns
returns c = level-ends
