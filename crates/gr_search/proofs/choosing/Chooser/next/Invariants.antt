-- what has no value may be decided, and each round takes one out
use Rattle.std.proofs.Common.{◌≡◌, length}
use Rattle.gr_search.specs.Deciding.{IsChooser, HoldsOpen}
use Rattle.gr_search.proofs.Undecided.{count_true}
use Rattle.gr_search.proofs.choosing.Chooser.next.Given as goal

abbrev pub invariant-loop-var : goal.invariant-loop-var
invariant-loop-var l = record {
  kept : IsChooser l.self-inside.order.vars l.self-inside.order.present l.self-inside.phases l.self-inside.noted;
  sized : length l.self-inside.order.present ≡ length l.fn.self;
  holds : HoldsOpen l.self-inside.order.present l.trail.assigned;
}

abbrev pub decreases-loop-var : goal.decreases-loop-var
decreases-loop-var l = count_true l.self-inside.order.present
