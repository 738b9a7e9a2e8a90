use Rattle.std.proofs.Common.{length, ◌-◌, ◌*◌, ◌≡◌, ◌≤◌, ◌<◌, map}
use Rattle.gr_logic.specs.Literals.{Literal}
use Rattle.gr_logic.specs.Codes.{code_of}
use Rattle.gr_watch.specs.WatchLists.{list_of}
use Rattle.gr_prop.specs.Compactions.{moved_watch}
use Rattle.gr_prop.proofs.compacting.move_watches.Given as goal

abbrev pub invariant-loop-code : goal.invariant-loop-code
invariant-loop-code l = record {
  within : l.code ≤ 2 * l.vars;
  vars : l.watches.vars ≡ l.fn.watches.vars;
  room : length l.watches.lists ≡ length l.fn.watches.lists;
  moved : (q : Literal) → code_of q < l.code → list_of l.watches q ≡ map (moved_watch l.moves) (list_of l.fn.watches q);
  still : (q : Literal) → l.code ≤ code_of q → list_of l.watches q ≡ list_of l.fn.watches q;
}

abbrev pub decreases-loop-code : goal.decreases-loop-code
decreases-loop-code l = 2 * l.vars - l.code
