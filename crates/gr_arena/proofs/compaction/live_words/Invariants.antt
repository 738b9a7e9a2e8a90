-- what is still to be counted
use Rattle.std.proofs.Common.{◌≡◌, ◌+◌, ◌-◌, length, drop}
use Rattle.gr_arena.specs.Blocks.{Laid, blocks_in, flat, live}
use Rattle.gr_arena.proofs.compaction.live_words.Given as goal

abbrev pub invariant-loop-place : goal.invariant-loop-place
invariant-loop-place l = record {
  laid : Laid (drop l.place l.words);
  left : l.count + length (flat (live (blocks_in (drop l.place l.words))))
      ≡ length (flat (live (blocks_in l.words)));
}

abbrev pub decreases-loop-place : goal.decreases-loop-place
decreases-loop-place l = length l.words - l.place
