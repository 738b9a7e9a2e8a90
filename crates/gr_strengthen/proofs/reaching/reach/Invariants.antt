use Rattle.std.proofs.Common.{◌-◌}
use Rattle.gr_strengthen.specs.Reaching.{AreFollowed, IsMore, with_clause_of}
use Rattle.gr_strengthen.specs.Reached.{AreSized, reach_in, nothing_reached}
use Rattle.gr_strengthen.proofs.reaching.reach.Given as goal

-- the first forced variables were followed
abbrev pub invariant-forced : goal.invariant-forced
invariant-forced l = record {
  sized : AreSized l.reached l.trail.vars;
  followed : AreFollowed l.arena l.trail.assigned (reach_in l.reached) l.index;
  more : IsMore (with_clause_of l.trail.assigned nothing_reached l.source) (reach_in l.reached);
}

abbrev pub decreases-forced : goal.decreases-forced
decreases-forced l = l.trail.vars - l.index
