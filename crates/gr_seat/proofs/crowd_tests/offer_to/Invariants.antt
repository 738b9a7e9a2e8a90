use Rattle.std.proofs.Common.{◌≡◌}
use Rattle.gr_diary.specs.Examples.{chain}
use Rattle.gr_seat.proofs.crowd_tests.offer_to.Given as goal

abbrev pub invariant-offers : goal.invariant-offers
invariant-offers g l = (l.seat.lock ≡ l.fn.bench) × (l.seat.formula ≡ chain)

abbrev pub invariant-clauses : goal.invariant-clauses
invariant-clauses g l = (l.seat.lock ≡ l.fn.bench) × (l.seat.formula ≡ chain)
