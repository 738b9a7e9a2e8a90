-- the next id is new
use Rattle.std.proofs.Common.{◌+◌, arith}
use Rattle.gr_work.proofs.Fresh.{new_id, still_below, entered_below, left_below}
use Rattle.gr_work.proofs.tests.step.Goals as goal

pub enter-requires : goal.enter-requires
enter-requires c = new_id c.args.id c.args.work.now.items c.requires

pub returns-then-step-ge12 : goal.returns-then-step-ge12
returns-then-step-ge12 c =
    rw c.take_best.ensures.rest
    (left_below (c.args.id + 1) c.args.work.now.items c.take_best.result
    (still_below c.args.id (c.args.id + 1) c.args.work.now.items (omega arith) c.requires))

pub returns : goal.returns
returns c =
    rw c.in_ok-enter.ensures.ok
    (entered_below (c.args.id + 1) c.args.work.now.items c.args.work.now.capacity _ (omega arith)
    (still_below c.args.id (c.args.id + 1) c.args.work.now.items (omega arith) c.requires))
