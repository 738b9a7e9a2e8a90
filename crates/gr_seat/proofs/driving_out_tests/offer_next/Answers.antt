use Rattle.std.proofs.Common.{rules, ◌≡◌, ◌∷◌, [], ℕ, true, List, sym, subst, arith}
use Rattle.gr_diary.specs.declared.entries.Entry.TheVariants.{Learn}
use Rattle.gr_seat.specs.Handles.{Enables}
use Rattle.gr_seat.specs.Turns.{Makes}
use Rattle.gr_seat.proofs.Alone.{next_entry}
use Rattle.gr_seat.proofs.driving_out_tests.offer_next.Goals as goal

pub learn-requires-clause-able : goal.learn-requires-clause-able
learn-requires-clause-able g c =
    let hints : c.in_ok-hints.hints ≡ 1 ∷ [] = search rules in
    subst (λ (ids : List ℕ). Enables c.args.seat.now (Learn c.args.clause ids c.args.lbd true)) (sym hints)
    c.requires.able

pub returns-clause-seen : goal.returns-clause-seen
returns-clause-seen g c =
    let hints : c.in_ok-hints.hints ≡ 1 ∷ [] = search rules in
    next_entry c.args.seat.now c.learn.new.seat c.count.new.seat (Learn c.args.clause (1 ∷ []) c.args.lbd true)
    (λ s. c.in_ok-id.id ≡ s.next)
    (subst
    (λ (ids : List ℕ).
    Makes c.args.seat.now c.learn.new.seat (Learn c.args.clause ids c.args.lbd true) (λ s. c.in_ok-id.id ≡ s.next))
    hints c.in_ok-id.ensures.ok) c.count.ensures.seen (search (rules, arith))
