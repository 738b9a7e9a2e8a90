use Rattle.std.proofs.Common.{arith}
use Rattle.gr_arena.proofs.Runs.{found, total, id_is}
use Rattle.gr_arena.proofs.arenas.Arena.id.Goals as goal

pub bits-requires : goal.bits-requires
bits-requires c = rw c.as_slice-words.ensures.value (omega (
  arith,
  total (found c.self.inside.words.items c.args.self.now c.args.place.0 c.self.view_is
      c.self.invariant c.requires),
))

pub bits-requires-2 : goal.bits-requires-2
bits-requires-2 c = rw c.as_slice-words.ensures.value (omega (
  arith,
  total (found c.self.inside.words.items c.args.self.now c.args.place.0 c.self.view_is
      c.self.invariant c.requires),
))

pub returns : goal.returns
returns c =
    rw (c.bits.ensures, c.bits-2.ensures, c.as_slice-words.ensures.value)
    (id_is (found c.self.inside.words.items c.args.self.now c.args.place.0 c.self.view_is
    c.self.invariant c.requires))
