use Rattle.std.proofs.Common.{rules, sym, subst, IfOk}
use Rattle.gr_diary.specs.declared.entries.Entry.{Entry}
use Rattle.gr_bench.specs.Exchanges.{IsGrown, state_at}
use Rattle.gr_bench.specs.Answers.{entry_of, IsImported}
use Rattle.gr_turn.specs.Seats.{Sitting}
use Rattle.gr_turn.specs.Turns.{Gains}
use Rattle.gr_seat.specs.declared.shelves.Shelf.{Shelf}
use Rattle.gr_seat.specs.declared.shelves.Fixed.{Fixed}
use Rattle.gr_seat.specs.Handles.{Handle, handle_of}
use Rattle.gr_seat.specs.Turns.{Makes}
use Rattle.gr_seat.proofs.Made.{IsTurn, turn_of, makes_if_ok, first_if_ok, second_if_ok}
use Rattle.gr_seat.proofs.shared_benches.SharedBench.import.Goals as goal

pub returns-clause-ok : goal.returns-clause-ok
returns-clause-ok g c =
    let found = c.value_mut.result.now.bench in
    let left = c.import-answer.new.self in
    let answer = c.import-answer.result in
    let seat = c.seat.inside.seat in
    let after = c.leave.new.seat in
    let turn : IsTurn seat after found left =
    turn_of seat after found left c.seat.invariant.0 (search rules) (search rules) (search rules) (search rules) in
    let grew = first_if_ok answer (λ x. IsGrown found left (entry_of x)) (λ x. IsImported (state_at found) x)
    c.import-answer.ensures.ok in
    let told = second_if_ok answer (λ x. IsGrown found left (entry_of x)) (λ x. IsImported (state_at found) x)
    c.import-answer.ensures.ok in
    let entered = subst (λ (v : Sitting Entry Fixed). Gains c.is_ok.result v.found left.diary.entries v.own after.own)
    c.enter-held.ensures.seat c.leave.ensures.own in
    let gains = subst (λ (v : Shelf). Gains c.is_ok.result v.bench.diary.entries left.diary.entries seat.own after.own)
    (sym c.value_mut.ensures.value) entered in
    subst (λ (s : Handle). IfOk answer (λ x. Makes s (handle_of after) (entry_of x) (λ s. IsImported s x)))
    c.seat.view_is
    (makes_if_ok answer c.is_ok.result seat after found left entry_of (λ x s. IsImported s x)
    turn c.is_ok.ensures.value gains grew told)
