-- notes change nothing that a contract sees
use Rattle.std.proofs.Common.{◌≡◌}
use Rattle.gr_search.proofs.choosing.Chooser.note_reason.Given as goal

abbrev pub invariant-loop-other : goal.invariant-loop-other
invariant-loop-other l = l.self ≡ l.fn.self
