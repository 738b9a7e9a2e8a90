-- bumps leave who is in
use Rattle.std.proofs.Common.{◌≡◌}
use Rattle.gr_search.proofs.scores.Scores.bump_noted.Given as goal

abbrev pub invariant-loop-key : goal.invariant-loop-key
invariant-loop-key l = (l.order.present ≡ l.fn.order.present) × (l.order.vars ≡ l.fn.order.vars)
