-- so many LBDs were pushed
use Rattle.std.proofs.Common.{◌≡◌, ◌+◌}
use Rattle.gr_heur.proofs.tests.restarts_by_the_latest_against_all.Given as goal

abbrev pub invariant-loop-push : goal.invariant-loop-push
invariant-loop-push g l = l.restart.pushes ≡ l.push-counter

abbrev pub invariant-loop-push-2 : goal.invariant-loop-push-2
invariant-loop-push-2 g l = l.restart.pushes ≡ 91 + l.push-counter
