use Rattle.std.proofs.Common.{rules, ◌≡◌, ◌+◌, ◌∷◌, ◌++◌, [], true, List, ap, ◌∙◌, arith}
use Rattle.gr_diary.specs.declared.entries.Entry.{Entry}
use Rattle.gr_diary.specs.declared.entries.Entry.TheVariants.{Learn}
use Rattle.gr_diary.specs.Examples.{plus}
use Rattle.gr_seat.proofs.Alone.{next_entry}
use Rattle.gr_seat.proofs.shorter_tests.offer_alone.Goals as goal

pub returns-clause-seen : goal.returns-clause-seen
returns-clause-seen g c =
    let e = Learn (plus 1 ∷ plus 2 ∷ plus 3 ∷ []) (2 ∷ 3 ∷ []) 2 true in
    let first = c.requires.first in
    next_entry c.args.seat.now c.offer_three.new.seat c.count.new.seat e (λ s. c.in_ok-id.id ≡ s.next)
    c.in_ok-id.ensures.made c.count.ensures.seen (search (rules, arith)) ∙ ap (λ (l : List Entry). l ++ e ∷ []) first
