use Rattle.std.proofs.Common.{rules, sym, subst}
use Rattle.gr_diary.specs.declared.entries.Entry.{Entry}
use Rattle.gr_diary.specs.declared.entries.Entry.TheVariants.{Close}
use Rattle.gr_turn.specs.Seats.{Sitting}
use Rattle.gr_turn.specs.Turns.{Gains}
use Rattle.gr_seat.specs.declared.shelves.Shelf.{Shelf}
use Rattle.gr_seat.specs.declared.shelves.Fixed.{Fixed}
use Rattle.gr_seat.specs.Handles.{Handle, handle_of}
use Rattle.gr_seat.specs.Turns.{Makes, Anything}
use Rattle.gr_seat.proofs.Made.{IsTurn, turn_of, makes, made_if_done}
use Rattle.gr_seat.proofs.shared_benches.SharedBench.close.Goals as goal

pub returns-clause-done : goal.returns-clause-done
returns-clause-done g c = λ done.
    let found = c.value_mut.result.now.bench in
    let left = c.close-answer.new.self in
    let seat = c.seat.inside.seat in
    let after = c.leave.new.seat in
    let turn : IsTurn seat after found left =
    turn_of seat after found left c.seat.invariant.0 (search rules) (search rules) (search rules) (search rules) in
    let grown = made_if_done c.is_done.result c.close-answer.result c.is_done.ensures done in
    let entered = subst (λ (v : Sitting Entry Fixed). Gains c.is_done.result v.found left.diary.entries v.own after.own)
    c.enter-held.ensures.seat c.leave.ensures.own in
    let gains = subst
    (λ (v : Shelf). Gains c.is_done.result v.bench.diary.entries left.diary.entries seat.own after.own)
    (sym c.value_mut.ensures.value) entered in
    subst (λ (s : Handle). Makes s (handle_of after) Close Anything) c.seat.view_is
    (makes seat after found left Close Anything turn
    (subst (λ b. Gains b found.diary.entries left.diary.entries seat.own after.own) grown gains)
    (c.close-answer.ensures.done done) tt)
