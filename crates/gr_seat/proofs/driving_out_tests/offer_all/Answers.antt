use Rattle.std.proofs.Common.{rules, ◌∷◌, [], take}
use Rattle.gr_diary.specs.ExampleRuns.{shortening_run}
use Rattle.gr_seat.proofs.DrivingOut.{IsAtPairs, stays_at_pairs, offer_first, offer_second, offer_third, one_more}
use Rattle.gr_seat.proofs.driving_out_tests.offer_all.Goals as goal

pub offer_next-requires-clause-able : goal.offer_next-requires-clause-able
offer_next-requires-clause-able g c =
    let seat = c.args.seat.now in
    let at : IsAtPairs seat =
    record { formula = c.requires.at.1; reducers = c.requires.sizes.0; capacity = c.requires.sizes.1 } in
    offer_first seat c.in_ok-first.first at c.requires.first (search rules)

pub offer_next-requires-2-clause-able : goal.offer_next-requires-2-clause-able
offer_next-requires-2-clause-able g c =
    let seat = c.args.seat.now in
    let one = c.offer_next.new.seat in
    let at : IsAtPairs seat =
    record { formula = c.requires.at.1; reducers = c.requires.sizes.0; capacity = c.requires.sizes.1 } in
    offer_second one c.in_ok-second.second (stays_at_pairs seat one at c.offer_next.ensures.same.0)
    (one_more seat.seen one.seen [] (1 ∷ 2 ∷ 3 ∷ 4 ∷ 5 ∷ []) 5 c.in_ok-first.first c.in_ok-first_id.ensures.seen
    c.requires.first (search rules)) (search rules)

pub offer_next-requires-3-clause-able : goal.offer_next-requires-3-clause-able
offer_next-requires-3-clause-able g c =
    let seat = c.args.seat.now in
    let one = c.offer_next.new.seat in
    let two = c.offer_next-2.new.seat in
    let at : IsAtPairs seat =
    record { formula = c.requires.at.1; reducers = c.requires.sizes.0; capacity = c.requires.sizes.1 } in
    offer_third two c.in_ok-third.third
    (stays_at_pairs one two (stays_at_pairs seat one at c.offer_next.ensures.same.0) c.offer_next-2.ensures.same.0)
    (one_more one.seen two.seen (take 1 shortening_run) (1 ∷ 2 ∷ 3 ∷ 4 ∷ 6 ∷ []) 3 c.in_ok-second.second
    c.in_ok-second_id.ensures.seen
    (one_more seat.seen one.seen [] (1 ∷ 2 ∷ 3 ∷ 4 ∷ 5 ∷ []) 5 c.in_ok-first.first c.in_ok-first_id.ensures.seen
    c.requires.first (search rules)) (search rules)) (search rules)

pub returns-clause-seen : goal.returns-clause-seen
returns-clause-seen g c =
    let seat = c.args.seat.now in
    let one = c.offer_next.new.seat in
    let two = c.offer_next-2.new.seat in
    let three = c.offer_next-3.new.seat in
    one_more two.seen three.seen (take 2 shortening_run) (1 ∷ 2 ∷ 3 ∷ 5 ∷ 6 ∷ []) 4 c.in_ok-third.third
    c.in_ok-third_id.ensures.seen
    (one_more one.seen two.seen (take 1 shortening_run) (1 ∷ 2 ∷ 3 ∷ 4 ∷ 6 ∷ []) 3 c.in_ok-second.second
    c.in_ok-second_id.ensures.seen
    (one_more seat.seen one.seen [] (1 ∷ 2 ∷ 3 ∷ 4 ∷ 5 ∷ []) 5 c.in_ok-first.first c.in_ok-first_id.ensures.seen
    c.requires.first (search rules)) (search rules)) (search rules)
