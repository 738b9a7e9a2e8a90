use Rattle.std.proofs.Common.{sym, subst}
use Rattle.gr_strengthen.specs.Strengtheners.{StrengthenerState}
use Rattle.gr_reducer.specs.Steps.{IsReadyToGive}
use Rattle.gr_reducer.proofs.Held.{taken-is-fit}
use Rattle.gr_reducer.proofs.giving.give.Goals as goal

pub run-requires-clause-above : goal.run-requires-clause-above
run-requires-clause-above g c =
    (taken-is-fit c.args.seat.now c.args.keeping.now.strengthener c.args.taken.id c.args.taken.clause
    c.requires.ready.in_step c.requires.ready.taken).new.above

pub run-requires-clause-normal : goal.run-requires-clause-normal
run-requires-clause-normal g c =
    (taken-is-fit c.args.seat.now c.args.keeping.now.strengthener c.args.taken.id c.args.taken.clause
    c.requires.ready.in_step c.requires.ready.taken).normal

pub run-requires-clause-known : goal.run-requires-clause-known
run-requires-clause-known g c =
    (taken-is-fit c.args.seat.now c.args.keeping.now.strengthener c.args.taken.id c.args.taken.clause
    c.requires.ready.in_step c.requires.ready.taken).known

pub give_same-requires-clause-ready : goal.give_same-requires-clause-ready
give_same-requires-clause-ready g c =
    subst (λ (s : StrengthenerState). IsReadyToGive c.args.bench.now c.args.seat.now s c.args.taken.id
    c.args.taken.clause) (sym c.in_ok-run.ensures.same) c.requires.ready

pub give_shorter-requires-clause-ready : goal.give_shorter-requires-clause-ready
give_shorter-requires-clause-ready g c =
    subst (λ (s : StrengthenerState). IsReadyToGive c.args.bench.now c.args.seat.now s c.args.taken.id
    c.args.taken.clause) (sym c.in_ok-run.ensures.same) c.requires.ready
