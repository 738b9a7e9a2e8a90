-- notes change nothing that a contract sees
use Rattle.std.proofs.Common.{◌≡◌}
use Rattle.gr_search.proofs.choosing.Chooser.bump.Given as goal

abbrev pub invariant-loop-var : goal.invariant-loop-var
invariant-loop-var l = l.self ≡ l.fn.self

abbrev pub invariant-loop-lit : goal.invariant-loop-lit
invariant-loop-lit l = l.self ≡ l.fn.self
