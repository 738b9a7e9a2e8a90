use Rattle.gr_trail.proofs.Standing.{is-false}
use Rattle.gr_trail.proofs.laws.negations_are_false.Goals as goal

pub returns : goal.returns
returns c = is-false
