use Rattle.gr_trail.proofs.Climbing.{level-order}
use Rattle.gr_trail.proofs.laws.levels_climb.Goals as goal

pub returns : goal.returns
returns c = λ t i j a b is first second low.
    level-order 0 t.assigned t.depth i j a b is.climbs first second low
