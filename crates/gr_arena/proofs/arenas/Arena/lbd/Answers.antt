use Rattle.std.proofs.Common.{arith, sym, ap, ◌∙◌}
use Rattle.gr_arena.proofs.Runs.{found, total, lbd_is}
use Rattle.gr_arena.proofs.arenas.Arena.lbd.Goals as goal

pub bits-requires : goal.bits-requires
bits-requires c = rw c.as_slice.ensures.value (omega (
  arith,
  total (found c.self.inside.words.items
      c.args.self.now c.args.place.0 c.self.view_is c.self.invariant c.requires),
))

pub returns : goal.returns
returns c =
    let f = found c.self.inside.words.items c.args.self.now c.args.place.0 c.self.view_is
    c.self.invariant c.requires in
    rw (c.bits.ensures, c.as_slice.ensures.value) (lbd_is f ∙ ap (λ s. s.lbd) (sym f.stored))
