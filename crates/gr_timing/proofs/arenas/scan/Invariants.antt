use Rattle.std.proofs.Common.{◌≡◌, ◌%◌, ◌^◌, take}
use Rattle.gr_timing.specs.Sums.{codes_of_clauses}
use Rattle.gr_timing.proofs.arenas.scan.Given as goal

abbrev pub invariant-loop-place : goal.invariant-loop-place
invariant-loop-place l = l.sum ≡ codes_of_clauses l.arena (take l.place-index l.places) % 2 ^ 64
