use Rattle.std.proofs.Common.{◌≡◌, ◌<◌, All, IsSome, length}
use Rattle.gr_logic.specs.Literals.{var_of}
use Rattle.gr_trail.specs.Trails.{assigned_to}
use Rattle.gr_strengthen.specs.Reaching.{with_clause_of}
use Rattle.gr_strengthen.specs.Reached.{AreSized, reach_in}
use Rattle.gr_strengthen.proofs.reaching.meet.Given as goal

-- the literals in `rest` are still to be met
abbrev pub invariant-lits : goal.invariant-lits
invariant-lits l = record {
  sized : AreSized l.reached l.trail.vars;
  known : All (λ q. q.index < l.trail.vars) l.rest;
  valued : All (λ q. IsSome (assigned_to l.trail.assigned (var_of q))) l.rest;
  met : with_clause_of l.trail.assigned (reach_in l.reached) l.rest
      ≡ with_clause_of l.trail.assigned (reach_in l.fn.reached) l.clause;
}

abbrev pub decreases-lits : goal.decreases-lits
decreases-lits l = length l.rest
