use Rattle.std.proofs.Common.{◌≡◌, ◌+◌, ◌-◌, ◌++◌, map}
use Rattle.std.specs.List.{range_with_len}
use Rattle.gr_gen.specs.Pigeonholes.{apart}
use Rattle.gr_gen.proofs.pigeonholes.push_apart.Given as goal

-- the pigeon is apart from the others so far
abbrev pub invariant-loop-other : goal.invariant-loop-other
invariant-loop-other l =
    l.formula ≡ record l.fn.formula {
      clauses = l.fn.formula.clauses
          ++ map (apart l.holes l.hole l.pigeon) (range_with_len (l.pigeon + 1) (l.other - (l.pigeon + 1)));
    }
