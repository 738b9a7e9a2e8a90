use Rattle.std.proofs.Common.{rules, ◌<◌, ◌≤◌, ℕ, arith, subst}
use Rattle.gr_bench.specs.Answers.{IsBestOffer}
use Rattle.gr_diary.specs.declared.entries.Entry.TheVariants.{Take}
use Rattle.gr_seat.proofs.Alone.{next_entry, first_may_take}
use Rattle.gr_seat.proofs.shorter_tests.take_alone.Goals as goal

pub take-requires-clause-able : goal.take-requires-clause-able
take-requires-clause-able g c =
    let seat = c.actor-actor.ensures in
    first_may_take c.args.seat.now seat.legal c.requires.none (subst (λ (n : ℕ). 0 < n) seat.actor seat.in_range.0)
    (subst (λ (n : ℕ). n ≤ c.args.seat.now.reducers) seat.actor seat.in_range.1)

pub returns-clause-seen : goal.returns-clause-seen
returns-clause-seen g c =
    next_entry c.args.seat.now c.take.new.seat c.count_too.new.seat (Take c.args.seat.now.actor)
    (λ s. IsBestOffer s c.in_ok-taken.taken.id c.in_ok-taken.taken.clause) c.in_ok-taken.ensures.ok
    c.count_too.ensures.seen (search (rules, arith))
