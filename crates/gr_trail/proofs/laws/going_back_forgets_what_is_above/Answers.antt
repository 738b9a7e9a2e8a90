use Rattle.gr_trail.proofs.GoingBack.{opens-again, false-stays, assigned-stays}
use Rattle.gr_trail.specs.Trails.{Assigned, TrailState}
use Rattle.gr_logic.specs.Literals.{var_of}
use Rattle.gr_trail.proofs.laws.going_back_forgets_what_is_above.Goals as goal

pub returns : goal.returns
returns c = λ t level q a is there. (
  λ high. opens-again t level q a is there high,
  λ low. assigned-stays level t.assigned (var_of q) a there low,
  λ low falls. false-stays t level q a is falls there low,
)
