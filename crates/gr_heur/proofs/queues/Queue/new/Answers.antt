-- all variables stand in their slots
use Rattle.std.proofs.Common.{arith}
use Rattle.gr_heur.proofs.Fresh.{fresh_queue}
use Rattle.gr_heur.proofs.queues.Queue.new.Goals as goal

pub returns-clause-ready : goal.returns-clause-ready
returns-clause-ready c =
    let full = c.loop-index.invariant in
    record {
      placed = fresh_queue full (omega (arith, c.loop-index-test.false)) c.requires;
      room = omega (arith, full.slot_room, full.many);
      begun = omega arith;
    }
