-- the map has one more clause
use Rattle.gr_check.specs.Entries.{entries_of}
use Rattle.gr_check.proofs.RunMaps.{clauses_of-insert}
use Rattle.gr_check.proofs.pool.Pool.insert.Goals as goal

pub returns-in-Ok-clause-ok : goal.returns-in-Ok-clause-ok
returns-in-Ok-clause-ok c =
    rw (← c.make_room.ensures, ← c.self.view_is, c.in_ok-run.ensures.lits)
    (clauses_of-insert c.self.inside.lits.items c.args.lits.now (entries_of c.self.inside.runs)
    (entries_of c.insert.new.self) c.args.id _ c.in_ok-run.ensures.run.0 c.in_ok-run.ensures.run.1
    c.self.invariant c.in-Ok.ensures.ok)
