-- what none of the literals before the index has may be decided
use Rattle.std.proofs.Common.{◌≡◌, ◌≤◌, take, length}
use Rattle.gr_search.specs.Deciding.{IsChooser}
use Rattle.gr_search.proofs.Undecided.{IsOpenFor}
use Rattle.gr_search.proofs.choosing.Chooser.go_back.Given as goal

abbrev pub invariant-loop-index : goal.invariant-loop-index
invariant-loop-index l = record {
  kept : IsChooser l.self-inside.order.vars l.self-inside.order.present l.self-inside.phases l.self-inside.noted;
  sized : length l.self-inside.order.present ≡ length l.fn.self;
  within : l.index ≤ length l.lits;
  holds : IsOpenFor l.self-inside.order.present (take l.index l.lits);
}

abbrev pub decreases-loop-index : goal.decreases-loop-index
decreases-loop-index l = l.index
