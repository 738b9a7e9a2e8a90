use Rattle.std.proofs.Common.{◌≡◌, ◌++◌}
use Rattle.std.specs.List.{flat_map, range_with_len}
use Rattle.gr_gen.specs.Pigeonholes.{apart_from_later}
use Rattle.gr_gen.proofs.pigeonholes.push_alone.Given as goal

-- the first pigeons are apart from all later ones
abbrev pub invariant-loop-pigeon : goal.invariant-loop-pigeon
invariant-loop-pigeon l =
    l.formula ≡ record l.fn.formula {
      clauses = l.fn.formula.clauses ++ flat_map (apart_from_later l.holes l.hole) (range_with_len 0 l.pigeon);
    }
