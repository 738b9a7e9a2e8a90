use Rattle.std.proofs.Common.{◌≡◌, ◌+◌, ◌*◌, map}
use Rattle.std.specs.List.{range_with_len}
use Rattle.gr_logic.specs.Formulas.{VarsUpTo}
use Rattle.gr_gen.specs.OddRings.{is}
use Rattle.gr_gen.specs.Pigeonholes.{nest}
use Rattle.gr_gen.proofs.pigeonholes.somewhere.Given as goal

-- the clause has the first holes
abbrev pub invariant-loop-hole : goal.invariant-loop-hole
invariant-loop-hole l =
    (l.clause ≡ map (λ hole. is (nest l.holes l.pigeon hole)) (range_with_len 0 l.hole))
    × VarsUpTo ((l.holes + 1) * l.holes) l.clause
