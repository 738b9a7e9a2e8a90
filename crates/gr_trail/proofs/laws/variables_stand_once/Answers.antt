use Rattle.gr_trail.proofs.Standing.{assigned-at, one-place}
use Rattle.gr_trail.proofs.laws.variables_stand_once.Goals as goal

pub returns : goal.returns
returns c = λ t n a is there.
    (assigned-at t n a is there, λ i b other same. one-place t i n b a is other there same)
