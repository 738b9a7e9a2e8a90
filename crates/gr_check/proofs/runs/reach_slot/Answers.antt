-- slots with no run are added
use Rattle.std.proofs.Common.{◌≤◌, length, arith}
use Rattle.gr_check.proofs.Entries.{resized}
use Rattle.gr_check.proofs.runs.reach_slot.Goals as goal

pub returns-clause-same : goal.returns-clause-same
returns-clause-same c =
    let few : length c.args.slots.now.items ≤ c.in-Some.count = omega arith in
    resized c.args.slots.now.items _ c.in-Some.count _ few
    (rw c.reserve_slots.ensures at c.in_ok-resize.ensures.items)
