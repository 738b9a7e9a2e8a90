-- the slot is written where the vector reaches it
use Rattle.std.proofs.Common.{◌<◌, length, arith, Some, cond, nat_eq, ap, ◌∙◌}
use Rattle.gr_check.proofs.Entries.{set_slot}
use Rattle.gr_check.proofs.runs.put_slot.Goals as goal

pub returns-clause-ok : goal.returns-clause-ok
returns-clause-ok c =
    let in_range : c.args.index < length c.reach_slot.new.slots.items = omega (arith, c.in_ok-reach_slot.ensures.ok) in
    λ q. set_slot c.reach_slot.new.slots.items c.args.index (Some c.args.run) in_range q
    ∙ ap (cond (nat_eq c.args.index q) (Some c.args.run)) (c.in_ok-reach_slot.ensures.same q)
