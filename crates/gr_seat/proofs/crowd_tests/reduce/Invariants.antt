use Rattle.std.proofs.Common.{◌≡◌}
use Rattle.gr_diary.specs.Examples.{chain}
use Rattle.gr_seat.proofs.crowd_tests.reduce.Given as goal

abbrev pub invariant-loop : goal.invariant-loop
invariant-loop g l = (l.seat.lock ≡ l.fn.bench) × (l.seat.formula ≡ chain)
