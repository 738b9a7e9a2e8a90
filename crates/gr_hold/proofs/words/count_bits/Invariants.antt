-- the bits so far are counted
use Rattle.std.proofs.Common.{◌≡◌, ◌≤◌}
use Rattle.gr_hold.specs.Words.{bits_below}
use Rattle.gr_hold.proofs.words.count_bits.Given as goal

abbrev pub invariant-loop-bit : goal.invariant-loop-bit
invariant-loop-bit l = record {
  counted : l.count ≡ bits_below l.word l.bit;
  few : l.count ≤ l.bit;
}
