use Rattle.std.proofs.Common.{◌∙◌, List, sym, ap, subst}
use Rattle.std.specs.FinMap as finite
use Rattle.std.specs.FinSet as set
use Rattle.gr_logic.specs.Literals.{Literal}
use Rattle.gr_strengthen.specs.Strengtheners.{StrengthenerState}
use Rattle.gr_logic.specs.declared.items.Strengthened.TheVariants.{Shorter}
use Rattle.gr_reducer.specs.Steps.{IsInStep}
use Rattle.gr_reducer.proofs.Ables.{may-return}
use Rattle.gr_reducer.proofs.Returns.{after-shorter, free-after-shorter, shorter-is-new}
use Rattle.gr_reducer.proofs.giving.give_shorter.Goals as goal

pub give_back-requires-clause-able : goal.give_back-requires-clause-able
give_back-requires-clause-able g c =
    may-return c.args.seat.now c.args.keeping.now.strengthener c.requires.ready.in_step c.args.taken.now.id
    c.args.taken.now.clause c.requires.ready.taken c.requires.ready.units (Shorter c.args.clause c.args.hints)
    c.requires.strengthened

pub keep-requires-clause-above : goal.keep-requires-clause-above
keep-requires-clause-above g c =
    (shorter-is-new c.args.seat.now c.give_back.new.seat c.args.keeping.now.strengthener c.args.taken.now.id
    c.args.taken.now.clause c.args.clause c.args.hints c.in-Ok-Some.id c.requires.ready.in_step c.requires.ready.taken
    c.give_back.ensures.turn.sees (rw c.in-Ok-Some.field-0-is at c.in-Ok-Some.ensures.ok)).above

pub keep-requires-clause-unused : goal.keep-requires-clause-unused
keep-requires-clause-unused g c =
    (shorter-is-new c.args.seat.now c.give_back.new.seat c.args.keeping.now.strengthener c.args.taken.now.id
    c.args.taken.now.clause c.args.clause c.args.hints c.in-Ok-Some.id c.requires.ready.in_step c.requires.ready.taken
    c.give_back.ensures.turn.sees (rw c.in-Ok-Some.field-0-is at c.in-Ok-Some.ensures.ok)).free

pub returns-in-Ok-Some-clause-ready : goal.returns-in-Ok-Some-clause-ready
returns-in-Ok-Some-clause-ready g c =
    let k = c.args.keeping.now.strengthener in
    let with : List Literal → StrengthenerState =
    λ d. record k { kept = finite.insert k.kept c.in-Ok-Some.id (set.from_list d) } in
    record {
      lock = c.give_back.ensures.turn.sees.same.lock ∙ c.requires.ready.lock;
      in_step = subst (IsInStep c.give_back.new.seat)
          (sym (c.in_ok-keep-in-Ok-Some.ensures ∙ ap with c.in_ok-kept.ensures))
          (after-shorter c.args.seat.now c.give_back.new.seat k c.args.taken.now.id c.args.taken.now.clause
          c.args.clause c.args.hints c.in-Ok-Some.id c.requires.ready.in_step c.requires.ready.taken
          c.give_back.ensures.turn.sees (rw c.in-Ok-Some.field-0-is at c.in-Ok-Some.ensures.ok));
      free = free-after-shorter c.args.seat.now c.give_back.new.seat k c.args.taken.now.id
          c.args.taken.now.clause c.args.clause c.args.hints c.in-Ok-Some.id c.requires.ready.in_step
          c.requires.ready.taken c.give_back.ensures.turn.sees
          (rw c.in-Ok-Some.field-0-is at c.in-Ok-Some.ensures.ok);
    }
