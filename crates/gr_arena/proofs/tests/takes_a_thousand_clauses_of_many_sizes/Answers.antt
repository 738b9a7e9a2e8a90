-- a clause is there once it was added
use Rattle.std.specs.Prelude.{◌≡◌, IsSome, is_some}
use Rattle.std.proofs.Common.{ap}
use Rattle.gr_arena.proofs.Places.{own}
use Rattle.gr_arena.proofs.tests.takes_a_thousand_clauses_of_many_sizes.Goals as goal

pub lits-requires : goal.lits-requires
lits-requires g c = ap is_some (own _ _ _ _ c.in_ok-place.ensures.clauses)

pub remove-requires : goal.remove-requires
remove-requires g c = ap is_some (own _ _ _ _ c.in_ok-place.ensures.clauses)
