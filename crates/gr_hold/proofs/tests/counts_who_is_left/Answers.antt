-- each pair that the test gives is new, and the one that it drops is there
use Rattle.std.proofs.Common.{◌∙◌}
use Rattle.gr_hold.specs.declared.holds.Holder.TheVariants.{Actor, Work}
use Rattle.gr_hold.proofs.Pairs.{none_at_first, one_more}
use Rattle.gr_hold.proofs.tests.counts_who_is_left.Goals as goal

pub give-requires-clause-apart : goal.give-requires-clause-apart
give-requires-clause-apart g c = none_at_first c.new-holders.result (4, Actor 0) c.new-holders.ensures

pub give-requires-2-clause-apart : goal.give-requires-2-clause-apart
give-requires-2-clause-apart g c =
    one_more c.new-holders.result c.give.new.self (4, Actor 0) (4, Work) c.in_ok-give.ensures.ok
    ∙ none_at_first c.new-holders.result (4, Work) c.new-holders.ensures

pub drop_hold-requires-clause-there : goal.drop_hold-requires-clause-there
drop_hold-requires-clause-there g c =
    one_more c.give.new.self c.give-2.new.self (4, Work) (4, Work) c.in_ok-give-2.ensures.ok
