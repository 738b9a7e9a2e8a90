use Rattle.std.proofs.Common.{◌≡◌}
use Rattle.gr_gen.specs.OddRings.{chain}
use Rattle.gr_gen.proofs.odd_rings.odd_ring.Given as goal

-- the first variables differ, each from the next one
abbrev pub invariant-loop-i : goal.invariant-loop-i
invariant-loop-i l = l.formula ≡ record { vars = l.n; clauses = chain l.i }
