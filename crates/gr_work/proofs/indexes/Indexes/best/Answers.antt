-- the first of the ranking is the best
use Rattle.std.proofs.Common.{sym}
use Rattle.gr_work.proofs.Entries.{best_by_rank, none_by_rank, no_length}
use Rattle.gr_work.proofs.indexes.Indexes.best.Goals as goal

pub returns-in-Some : goal.returns-in-Some
returns-in-Some c =
    sym (best_by_rank c.args.self.now.arrivals c.args.self.now.ranking c.requires c.in-Some.field-0-0.now
    c.in-Some.item.now c.in-Some.ensures.value c.in-Some.ensures.least)

pub returns-in-None : goal.returns-in-None
returns-in-None c =
    sym (none_by_rank c.args.self.now.arrivals c.args.self.now.ranking c.requires
    (no_length _ c.in-None.ensures.variant.1))
