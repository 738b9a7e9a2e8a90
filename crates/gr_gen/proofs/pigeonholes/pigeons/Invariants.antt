use Rattle.std.proofs.Common.{◌≡◌, ◌*◌, ◌++◌, map}
use Rattle.std.specs.List.{flat_map, range_with_len}
use Rattle.gr_gen.specs.Pigeonholes.{is_somewhere, alone_in}
use Rattle.gr_gen.proofs.pigeonholes.pigeons.Given as goal

-- the first pigeons are somewhere
abbrev pub invariant-loop-pigeon : goal.invariant-loop-pigeon
invariant-loop-pigeon l =
    l.formula
    ≡ record { vars = l.n * l.holes; clauses = map (is_somewhere l.holes) (range_with_len 0 l.pigeon) }

-- and alone in the first holes
abbrev pub invariant-loop-hole : goal.invariant-loop-hole
invariant-loop-hole l =
    l.formula ≡ record {
      vars = l.n * l.holes;
      clauses = map (is_somewhere l.holes) (range_with_len 0 l.n)
          ++ flat_map (alone_in l.holes) (range_with_len 0 l.hole);
    }
