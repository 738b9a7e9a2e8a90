use Rattle.std.proofs.Common.{◌≡◌, ◌∙◌, sym, subst}
use Rattle.gr_logic.specs.declared.items.Strengthened.TheVariants.{Same}
use Rattle.gr_bench.specs.Answers.{id_of_outcome}
use Rattle.gr_reducer.specs.Steps.{IsInStep}
use Rattle.gr_reducer.proofs.Ables.{may-return}
use Rattle.gr_reducer.proofs.Held.{taken-is-fit}
use Rattle.gr_reducer.proofs.Returns.{after-same, free-after-same}
use Rattle.gr_reducer.proofs.giving.give_same.Goals as goal

pub give_back-requires-clause-able : goal.give_back-requires-clause-able
give_back-requires-clause-able g c =
    may-return c.args.seat.now c.args.keeping.now.strengthener c.requires.ready.in_step c.args.taken.id
    c.args.taken.clause c.requires.ready.taken c.requires.ready.units Same c.requires.strengthened

pub keep-requires-clause-above : goal.keep-requires-clause-above
keep-requires-clause-above g c =
    (taken-is-fit c.args.seat.now c.args.keeping.now.strengthener c.args.taken.id c.args.taken.clause
    c.requires.ready.in_step c.requires.ready.taken).new.above

pub keep-requires-clause-normal : goal.keep-requires-clause-normal
keep-requires-clause-normal g c =
    (taken-is-fit c.args.seat.now c.args.keeping.now.strengthener c.args.taken.id c.args.taken.clause
    c.requires.ready.in_step c.requires.ready.taken).normal

pub keep-requires-clause-known : goal.keep-requires-clause-known
keep-requires-clause-known g c =
    (taken-is-fit c.args.seat.now c.args.keeping.now.strengthener c.args.taken.id c.args.taken.clause
    c.requires.ready.in_step c.requires.ready.taken).known

pub returns-in-Ok-clause-ready : goal.returns-in-Ok-clause-ready
returns-in-Ok-clause-ready g c = record {
  lock = c.give_back.ensures.turn.sees.same.lock ∙ c.requires.ready.lock;
  in_step = subst (IsInStep c.give_back.new.seat) (sym c.in_ok-keep-in-Ok.ensures)
      (after-same c.args.seat.now c.give_back.new.seat c.args.keeping.now.strengthener c.args.taken.id
      c.args.taken.clause (λ s. c.in-Ok._id ≡ id_of_outcome s Same) c.requires.ready.in_step
      c.requires.ready.taken c.give_back.ensures.turn.sees c.in-Ok.ensures.ok);
  free = free-after-same c.args.seat.now c.give_back.new.seat c.args.keeping.now.strengthener c.args.taken.id
      c.args.taken.clause (λ s. c.in-Ok._id ≡ id_of_outcome s Same) c.requires.ready.in_step
      c.requires.ready.taken c.give_back.ensures.turn.sees c.in-Ok.ensures.ok;
}
