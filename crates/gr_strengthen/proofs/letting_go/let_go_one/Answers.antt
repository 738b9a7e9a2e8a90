use Rattle.std.proofs.Common.{IsSome, refl, sym, subst}
use Rattle.gr_strengthen.proofs.letting_go.let_go_one.Goals as goal

pub size_at-requires : goal.size_at-requires
size_at-requires c = subst IsSome (sym c.in-Some.ensures.there) refl

pub remove-requires-clause-there : goal.remove-requires-clause-there
remove-requires-clause-there c = subst IsSome (sym c.in-Some.ensures.there) refl

pub remove-requires-clause-unneeded : goal.remove-requires-clause-unneeded
remove-requires-clause-unneeded c = c.in-Some.ensures.free.unneeded
