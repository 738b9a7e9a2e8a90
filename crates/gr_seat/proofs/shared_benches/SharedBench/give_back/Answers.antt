use Rattle.std.proofs.Common.{rules, ℕ, Option, ◌≡◌, sym, subst, IfOk}
use Rattle.gr_diary.specs.declared.entries.Entry.{Entry}
use Rattle.gr_diary.specs.declared.entries.Entry.TheVariants as entry
use Rattle.gr_diary.specs.States.{State}
use Rattle.gr_bench.specs.Answers.{id_of_outcome}
use Rattle.gr_turn.specs.Seats.{Sitting}
use Rattle.gr_turn.specs.Turns.{Gains}
use Rattle.gr_seat.specs.declared.shelves.Shelf.{Shelf}
use Rattle.gr_seat.specs.declared.shelves.Fixed.{Fixed}
use Rattle.gr_seat.specs.Handles.{Handle, Enables, handle_of}
use Rattle.gr_seat.specs.Turns.{Makes}
use Rattle.gr_seat.proofs.Later.{enabled_at_turn}
use Rattle.gr_seat.proofs.Made.{IsTurn, turn_of, makes_if_ok}
use Rattle.gr_seat.proofs.shared_benches.SharedBench.give_back.Goals as goal

pub give_back-answer-requires : goal.give_back-answer-requires
give_back-answer-requires g c =
    let e : ℕ → Entry = λ n. entry.Return n c.args.outcome in
    let able = subst (λ h. Enables h (e h.actor)) (sym c.seat.view_is) (c.requires.able) in
    enabled_at_turn c.seat.inside.seat c.value_mut.result.now.bench (e c.seat.inside.actor) c.seat.invariant.0
    (search rules) (search rules) (search rules) (search rules) c.seat.invariant.1
    (subst (λ n. Enables (handle_of c.seat.inside.seat) (e n)) (sym c.seat.invariant.1) able)

pub returns-clause-ok : goal.returns-clause-ok
returns-clause-ok g c =
    let found = c.value_mut.result.now.bench in
    let left = c.give_back-answer.new.self in
    let answer = c.give_back-answer.result in
    let e : ℕ → Entry = λ n. entry.Return n c.args.outcome in
    let seat = c.seat.inside.seat in
    let after = c.leave.new.seat in
    let turn : IsTurn seat after found left =
    turn_of seat after found left c.seat.invariant.0 (search rules) (search rules) (search rules) (search rules) in
    let entered = subst (λ (v : Sitting Entry Fixed). Gains c.is_ok.result v.found left.diary.entries v.own after.own)
    c.enter-held.ensures.seat c.leave.ensures.own in
    let gains = subst (λ (v : Shelf). Gains c.is_ok.result v.bench.diary.entries left.diary.entries seat.own after.own)
    (sym c.value_mut.ensures.value) entered in
    let made = makes_if_ok answer c.is_ok.result seat after found left
    (λ id. e c.seat.inside.actor) (λ id s. id ≡ id_of_outcome s c.args.outcome)
    turn c.is_ok.ensures.value gains c.give_back-answer.ensures.ok c.give_back-answer.ensures.id in
    let told : Option ℕ → State → Type 0 = λ id s. id ≡ id_of_outcome s c.args.outcome in
    let named = subst (λ n. IfOk answer (λ id. Makes (handle_of seat) (handle_of after) (e n) (told id)))
    c.seat.invariant.1 made in
    subst (λ (s : Handle). IfOk answer (λ id. Makes s (handle_of after) (e s.actor) (told id))) c.seat.view_is named
