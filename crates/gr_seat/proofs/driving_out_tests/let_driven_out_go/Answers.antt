use Rattle.std.proofs.Common.{rules, ◌≡◌, ◌∷◌, [], ℕ, List, sym, subst}
use Rattle.gr_diary.specs.declared.entries.Entry.TheVariants.{Forget}
use Rattle.gr_seat.specs.Handles.{Enables}
use Rattle.gr_seat.specs.Turns.{Makes, Anything}
use Rattle.gr_seat.proofs.DrivingOut.{IsAtPairs, driven_out_may_go, taken_may_go}
use Rattle.gr_seat.proofs.driving_out_tests.let_driven_out_go.Goals as goal

pub solver_forget-requires-clause-able : goal.solver_forget-requires-clause-able
solver_forget-requires-clause-able g c =
    let gone : c.in_ok-gone.gone ≡ 4 ∷ [] = search rules in
    let at : IsAtPairs c.args.seat.now =
    record { formula = c.requires.at.1; reducers = c.requires.sizes.0; capacity = c.requires.sizes.1 } in
    subst (λ (ids : List ℕ). Enables c.args.seat.now (Forget 0 ids)) (sym gone)
    (driven_out_may_go c.args.seat.now at c.requires.third)

pub returns-clause-held : goal.returns-clause-held
returns-clause-held g c =
    let gone : c.in_ok-gone.gone ≡ 4 ∷ [] = search rules in
    let at : IsAtPairs c.args.seat.now =
    record { formula = c.requires.at.1; reducers = c.requires.sizes.0; capacity = c.requires.sizes.1 } in
    taken_may_go c.args.seat.now c.solver_forget.new.seat at c.requires.sizes.2 c.requires.third
    c.solver_forget.ensures.turn
    (subst (λ (ids : List ℕ). Makes c.args.seat.now c.solver_forget.new.seat (Forget 0 ids) Anything) gone
    c.in_ok-solver_forget.ensures.ok)
