-- a slot is emptied, if it is there
use Rattle.std.proofs.Common.{◌<◌, ◌≤◌, length, arith, None}
use Rattle.gr_check.proofs.Entries.{set_slot, past}
use Rattle.gr_check.proofs.runs.clear_slot.Goals as goal

pub returns-then-index-len : goal.returns-then-index-len
returns-then-index-len c =
    let in_range : c.args.index < length c.args.slots.now.items = omega arith in
    set_slot c.args.slots.now.items c.args.index None in_range

pub returns-else-index-len : goal.returns-else-index-len
returns-else-index-len c =
    let beyond : length c.args.slots.now.items ≤ c.args.index = omega arith in
    past c.args.slots.now.items c.args.index beyond
