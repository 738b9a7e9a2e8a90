-- a run is put behind the others
use Rattle.std.proofs.Common.{Result, Ok, Err, OnErr, Some, length, ap, ◌∙◌}
use Rattle.gr_check.proofs.FarEntries.{far_pushed, far_behind}
use Rattle.gr_check.proofs.runs.push_far.Goals as goal

-- what holds holds where there is an error
on_err : {T E P : Type 0} (r : Result T E) → P → OnErr r P
on_err (Ok x) holds = tt
on_err (Err e) holds = holds

pub returns-clause-ok : goal.returns-clause-ok
returns-clause-ok c =
    let end = c.len.ensures ∙ ap length c.make_room.ensures in
    rw (c.in_ok-push.ensures.ok, c.make_room.ensures)
    (far_pushed c.args.far_ids.now c.args.far.now.items c.put_slot.new.slots.items c.args.id c.args.run
    c.requires (rw end at c.in_ok-put_slot.ensures.ok))

pub returns-in_err-push-clause-err : goal.returns-in_err-push-clause-err
returns-in_err-push-clause-err c =
    let end = c.len.ensures ∙ ap length c.make_room.ensures in
    on_err c.from_residual-in_err-push.result
    (rw (c.in_err-push.ensures.err, c.make_room.ensures)
    (far_behind c.args.far_ids.now c.args.far.now.items c.put_slot.new.slots.items (Some c.args.run)
    (rw end at c.in_ok-put_slot.ensures.ok)))
