-- the new place stands where the id was
use Rattle.std.proofs.Common.{arith}
use Rattle.gr_arena.proofs.MovesRead.{long, move_read}
use Rattle.gr_arena.proofs.relocations.Moves.to.Goals as goal

pub bits-requires : goal.bits-requires
bits-requires c = rw c.as_slice-words.ensures.value (omega (
  arith,
  long c.self.inside.words.items c.args.self.now c.args.old.0 c.self.view_is
      c.self.invariant c.requires,
))

pub bits-requires-2 : goal.bits-requires-2
bits-requires-2 c = rw c.as_slice-words.ensures.value (omega (
  arith,
  long c.self.inside.words.items c.args.self.now c.args.old.0 c.self.view_is
      c.self.invariant c.requires,
))

pub returns : goal.returns
returns c =
    rw (c.bits.ensures, c.bits-2.ensures, c.as_slice-words.ensures.value)
    (move_read c.self.inside.words.items c.args.self.now c.args.old.0 c.self.view_is
    c.self.invariant c.requires)
