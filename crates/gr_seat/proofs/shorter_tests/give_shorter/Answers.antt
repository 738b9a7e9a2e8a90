use Rattle.std.proofs.Common.{rules, ◌≡◌, ◌<◌, ◌≤◌, ◌∷◌, [], ℕ, List, sym, subst}
use Rattle.gr_logic.specs.Literals.{Literal}
use Rattle.gr_logic.specs.declared.items.Strengthened.TheVariants.{Shorter}
use Rattle.gr_bench.specs.Answers.{id_of_outcome}
use Rattle.gr_diary.specs.declared.entries.Entry.TheVariants.{Return}
use Rattle.gr_diary.specs.Examples.{plus}
use Rattle.gr_seat.specs.Handles.{Enables}
use Rattle.gr_seat.proofs.Alone.{shorter_third, returned_may_take}
use Rattle.gr_seat.proofs.shorter_tests.give_shorter.Goals as goal

pub give_back-requires-clause-able : goal.give_back-requires-clause-able
give_back-requires-clause-able g c =
    let seat = c.args.seat.now in
    let sizes = c.requires.sizes in
    let clause : c.in_ok-clause.clause ≡ plus 1 ∷ plus 3 ∷ [] = search rules in
    let hints : c.in_ok-hints.hints ≡ 1 ∷ 2 ∷ 3 ∷ [] = search rules in
    subst (λ (k : List Literal × List ℕ). Enables seat (Return seat.actor (Shorter k.0 k.1)))
    (λ i. (sym clause i, sym hints i))
    (shorter_third seat c.requires.at.1 sizes.0 sizes.1 sizes.2 c.requires.third)

pub returns-clause-free : goal.returns-clause-free
returns-clause-free g c =
    let outcome = Shorter c.in_ok-clause.clause c.in_ok-hints.hints in
    let seat = c.actor-actor.ensures in
    returned_may_take c.args.seat.now c.give_back.new.seat outcome (λ s. c.in_ok-id.id ≡ id_of_outcome s outcome)
    c.give_back.ensures.turn c.in_ok-id.ensures.ok (subst (λ (n : ℕ). 0 < n) seat.actor seat.in_range.0)
    (subst (λ (n : ℕ). n ≤ c.args.seat.now.reducers) seat.actor seat.in_range.1)
