use Rattle.std.proofs.Common.{◌≡◌, ◌%◌, ◌^◌, take}
use Rattle.gr_timing.specs.Sums.{places_and_blockers}
use Rattle.gr_timing.proofs.watches.walk.Given as goal

abbrev pub invariant-loop-watch : goal.invariant-loop-watch
invariant-loop-watch l = l.sum ≡ places_and_blockers (take l.watch-index l.list) % 2 ^ 64
