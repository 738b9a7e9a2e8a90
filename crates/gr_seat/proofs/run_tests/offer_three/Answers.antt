use Rattle.std.proofs.Common.{rules, ◌≡◌, ◌∷◌, [], ℕ, true, List, sym, subst}
use Rattle.gr_logic.specs.Literals.{Literal}
use Rattle.gr_diary.specs.declared.entries.Entry.TheVariants.{Learn}
use Rattle.gr_diary.specs.Examples.{plus}
use Rattle.gr_seat.specs.Handles.{Enables}
use Rattle.gr_seat.specs.Turns.{Makes}
use Rattle.gr_seat.proofs.Held.{three_first, learnt_may_go}
use Rattle.gr_seat.proofs.run_tests.offer_three.Goals as goal

pub learn-requires-clause-able : goal.learn-requires-clause-able
learn-requires-clause-able g c =
    let seat = c.args.seat.now in
    let clause : c.in_ok-clause.clause ≡ plus 1 ∷ plus 2 ∷ plus 3 ∷ [] = search rules in
    let hints : c.in_ok-hints.hints ≡ 2 ∷ 3 ∷ [] = search rules in
    subst (λ (k : List Literal × List ℕ). Enables seat (Learn k.0 k.1 2 true)) (λ i. (sym clause i, sym hints i))
    (three_first seat c.requires.at.1 c.requires.first)

pub returns-clause-held : goal.returns-clause-held
returns-clause-held g c =
    learnt_may_go c.args.seat.now c.learn.new.seat c.in_ok-clause.clause c.in_ok-hints.hints 2 c.in_ok-id.id true
    c.learn.ensures.turn c.in_ok-id.ensures.ok

pub returns-clause-made : goal.returns-clause-made
returns-clause-made g c =
    let clause : c.in_ok-clause.clause ≡ plus 1 ∷ plus 2 ∷ plus 3 ∷ [] = search rules in
    let hints : c.in_ok-hints.hints ≡ 2 ∷ 3 ∷ [] = search rules in
    subst
    (λ (k : List Literal × List ℕ).
    Makes c.args.seat.now c.learn.new.seat (Learn k.0 k.1 2 true) (λ s. c.in_ok-id.id ≡ s.next))
    (λ i. (clause i, hints i)) c.in_ok-id.ensures.ok
