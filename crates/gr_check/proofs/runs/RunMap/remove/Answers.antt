-- an id is taken out of the vector and of the map
use Rattle.gr_check.proofs.Entries.{taken}
use Rattle.gr_check.proofs.runs.RunMap.remove.Goals as goal

pub returns-clause-left : goal.returns-clause-left
returns-clause-left c = taken _ _ _ _ c.args.id c.clear_slot.ensures c.clear_far.ensures
