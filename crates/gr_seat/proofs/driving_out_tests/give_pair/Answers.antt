use Rattle.std.proofs.Common.{rules, ◌≡◌, ◌≤◌, ◌∷◌, [], ℕ, List, sym, subst}
use Rattle.gr_logic.specs.Literals.{Literal}
use Rattle.gr_logic.specs.declared.items.Strengthened.TheVariants.{Shorter}
use Rattle.gr_diary.specs.declared.entries.Entry.TheVariants.{Return}
use Rattle.gr_diary.specs.Examples.{plus}
use Rattle.gr_seat.specs.Handles.{Enables}
use Rattle.gr_seat.proofs.Alone.{shorter_may_go}
use Rattle.gr_seat.proofs.DrivingOut.{IsAtPairs, pair_fourth}
use Rattle.gr_seat.proofs.driving_out_tests.give_pair.Goals as goal

pub give_back-requires-clause-able : goal.give_back-requires-clause-able
give_back-requires-clause-able g c =
    let seat = c.args.seat.now in
    let sizes = c.requires.sizes in
    let clause : c.in_ok-clause.clause ≡ plus 1 ∷ plus 2 ∷ [] = search rules in
    let hints : c.in_ok-hints.hints ≡ 1 ∷ [] = search rules in
    let at : IsAtPairs seat = record { formula = c.requires.at.1; reducers = sizes.0; capacity = sizes.1 } in
    subst (λ (k : List Literal × List ℕ). Enables seat (Return seat.actor (Shorter k.0 k.1)))
    (λ i. (sym clause i, sym hints i)) (pair_fourth seat at sizes.2 c.requires.fourth)

pub returns-clause-held : goal.returns-clause-held
returns-clause-held g c =
    let seat = c.actor-actor.ensures in
    shorter_may_go c.args.seat.now c.give_back.new.seat c.in_ok-clause.clause c.in_ok-hints.hints c.in_ok-id.id
    c.give_back.ensures.turn c.in_ok-id.ensures.ok
    (subst (λ (n : ℕ). n ≤ c.args.seat.now.reducers) seat.actor seat.in_range.1)
