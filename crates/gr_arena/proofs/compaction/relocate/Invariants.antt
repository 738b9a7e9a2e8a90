-- what is still to be copied and to be written over, and that there is room
use Rattle.std.proofs.Common.{◌-◌, ◌≤◌, length}
use Rattle.std.specs.Vec.{vec_capacity}
use Rattle.gr_arena.proofs.Relocating.{Left}
use Rattle.gr_arena.proofs.compaction.relocate.Given as goal

abbrev pub invariant-loop-place : goal.invariant-loop-place
invariant-loop-place l = record {
  left : Left l.fn.words l.words l.kept.items l.place;
  room : vec_capacity l.fn.kept ≤ vec_capacity l.kept;
}

abbrev pub decreases-loop-place : goal.decreases-loop-place
decreases-loop-place l = length l.words - l.place
