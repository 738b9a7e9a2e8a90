-- the order keeps its variables
use Rattle.std.proofs.Common.{◌≡◌, ◌<◌}
use Rattle.gr_heur.proofs.tests.agrees_with_a_scan_of_all.Given as goal

abbrev pub invariant-loop-turn : goal.invariant-loop-turn
invariant-loop-turn g l = record { vars : l.order.vars ≡ 16; drawn : l.draw < 4096 }
