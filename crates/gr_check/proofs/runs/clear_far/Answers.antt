-- an id's slot is emptied, if it has one
use Rattle.gr_check.proofs.FarEntries.{far_set, far_none}
use Rattle.gr_check.proofs.runs.clear_far.Goals as goal

pub returns-in-Some : goal.returns-in-Some
returns-in-Some c = far_set c.args.far_ids.now _ _ c.args.id c.in-Some.place _ c.in-Some.ensures c.clear_slot.ensures

pub returns-in_default : goal.returns-in_default
returns-in_default c = far_none c.args.far_ids.now _ c.args.id c.in_default.ensures
