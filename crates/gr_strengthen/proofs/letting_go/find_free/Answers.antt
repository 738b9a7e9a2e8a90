use Rattle.std.proofs.Common.{IsSome, refl, sym, subst}
use Rattle.gr_strengthen.proofs.letting_go.find_free.Goals as goal

pub is_free-requires : goal.is_free-requires
is_free-requires c = subst IsSome (sym c.in-Some.ensures.some.1) refl
