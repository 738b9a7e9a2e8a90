use Rattle.std.proofs.Common.{◌≡◌, take}
use Rattle.gr_logic.specs.NormalForms.{first_occurrences}
use Rattle.gr_logic.proofs.FirstOccurrences.{IsApart}
use Rattle.gr_logic.proofs.normalizing.normal_by_scan.Given as goal

abbrev pub invariant-loop-lit : goal.invariant-loop-lit
invariant-loop-lit l =
    record {
      firsts : l.firsts ≡ first_occurrences (take l.lit-index l.lits);
      apart : IsApart (take l.lit-index l.lits);
    }
