use Rattle.std.proofs.Common.{sym, refl, subst, IsSome}
use Rattle.gr_import.proofs.Lent.{stored-as}
use Rattle.gr_import.proofs.tests.take_over.Goals as goal

pub lbd-lbd-requires : goal.lbd-lbd-requires
lbd-lbd-requires c =
    let found = c.in-Some.ensures.some in
    let s = stored-as c.arena.result.now.clauses c.import.new.base.clauses c.in-Some.place.0 found.0
    c.arena.ensures.clauses found.1 in
    subst IsSome (sym s.1.0) refl
