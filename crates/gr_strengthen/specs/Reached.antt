-- what was reached, without its room
use Rattle.std.specs.Prelude.{◌≡◌, ℕ, []}
use Rattle.gr_strengthen.specs.Reaching.{Reach}
use Rattle.gr_strengthen.specs.declared.reaching.Reached.{Reached}

-- the variables that were reached
abbrev pub reach_in : Reached → Reach
reach_in r = record { forced = r.forced.marked; decided = r.decided.marked }

-- nothing
abbrev pub nothing_reached : Reach
nothing_reached = record { forced = []; decided = [] }

-- there are marks for so many variables
pub record AreSized (r : Reached) (vars : ℕ) : Type 0 where
  pub forced : r.forced.vars ≡ vars
  pub decided : r.decided.vars ≡ vars
