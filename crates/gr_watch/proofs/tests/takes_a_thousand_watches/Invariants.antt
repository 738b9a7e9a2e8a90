-- the lists are those of three hundred variables
use Rattle.std.proofs.Common.{◌≡◌}
use Rattle.gr_watch.proofs.tests.takes_a_thousand_watches.Given as goal

abbrev pub invariant-loop-n : goal.invariant-loop-n
invariant-loop-n g l = l.watches.vars ≡ 300

abbrev pub invariant-loop-round : goal.invariant-loop-round
invariant-loop-round g l = l.watches.vars ≡ 300
