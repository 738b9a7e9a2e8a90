use Rattle.std.proofs.Common.{◌≡◌, ◌%◌, ◌^◌, take}
use Rattle.gr_timing.specs.Sums.{codes_of}
use Rattle.gr_timing.proofs.arenas.codes.Given as goal

abbrev pub invariant-loop-lit : goal.invariant-loop-lit
invariant-loop-lit l = l.sum ≡ codes_of (take l.lit-index l.lits) % 2 ^ 64
