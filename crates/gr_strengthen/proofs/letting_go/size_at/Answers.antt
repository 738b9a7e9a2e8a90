use Rattle.gr_prop.proofs.Lookups.{some-stored}
use Rattle.gr_strengthen.proofs.letting_go.size_at.Goals as goal

pub lits-requires : goal.lits-requires
lits-requires c =
    some-stored c.arena.result.now.clauses c.args.base.now.clauses c.args.place.0 c.arena.ensures.clauses c.requires
