use Rattle.std.proofs.Common.{subst}
use Rattle.gr_trail.specs.Trails.{IsTrail}
use Rattle.gr_trail.proofs.Finds.{is_trail}
use Rattle.gr_trail.proofs.trails.Trail.depth.Goals as goal

pub returns-clause-trail : goal.returns-clause-trail
returns-clause-trail c = subst IsTrail c.self.view_is (is_trail c.self.invariant)
