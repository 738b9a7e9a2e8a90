use Rattle.gr_reducer.proofs.Takes.{after-take}
use Rattle.gr_reducer.proofs.working.take_one.Goals as goal

pub returns-in-Ok-clause-in_step : goal.returns-in-Ok-clause-in_step
returns-in-Ok-clause-in_step g c =
    (after-take c.args.seat.now c.next_work.new.seat c.args.keeping.now.strengthener c.in-Ok.taken.id
    c.in-Ok.taken.clause c.requires.ready.in_step c.requires.ready.free c.next_work.ensures.sees c.in-Ok.ensures.ok).0

pub returns-in-Ok-clause-taken : goal.returns-in-Ok-clause-taken
returns-in-Ok-clause-taken g c =
    (after-take c.args.seat.now c.next_work.new.seat c.args.keeping.now.strengthener c.in-Ok.taken.id
    c.in-Ok.taken.clause c.requires.ready.in_step c.requires.ready.free c.next_work.ensures.sees c.in-Ok.ensures.ok).1
