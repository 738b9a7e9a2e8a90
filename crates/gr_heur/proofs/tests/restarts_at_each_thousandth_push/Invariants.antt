-- so many LBDs were pushed
use Rattle.std.proofs.Common.{◌≡◌}
use Rattle.gr_heur.proofs.tests.restarts_at_each_thousandth_push.Given as goal

abbrev pub invariant-loop-push : goal.invariant-loop-push
invariant-loop-push g l = l.restart.pushes ≡ l.push-counter
