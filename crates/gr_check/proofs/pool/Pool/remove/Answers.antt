-- the map has one clause less
use Rattle.gr_check.specs.Entries.{entries_of}
use Rattle.gr_check.proofs.RunMaps.{clauses_of-remove}
use Rattle.gr_check.proofs.pool.Pool.remove.Goals as goal

pub returns-in-Some : goal.returns-in-Some
returns-in-Some c =
    rw (← c.self.view_is)
    (clauses_of-remove c.self.inside.lits.items (entries_of c.self.inside.runs) (entries_of c.remove.new.self)
    c.args.id c.remove.ensures.left)

pub returns-in_default : goal.returns-in_default
returns-in_default c =
    rw (← c.self.view_is)
    (clauses_of-remove c.self.inside.lits.items (entries_of c.self.inside.runs) (entries_of c.remove.new.self)
    c.args.id c.remove.ensures.left)
