use Rattle.std.proofs.Common.{arith}
use Rattle.gr_arena.proofs.Runs.{found, total, count_at, codes, lits_are}
use Rattle.gr_arena.proofs.arenas.Arena.lits.Goals as goal

pub body-requires-clause-head : goal.body-requires-clause-head
body-requires-clause-head c = rw c.as_slice.ensures.value
    (omega (
      arith,
      total (found c.self.inside.words.items c.args.self.now c.args.place.0
          c.self.view_is c.self.invariant c.requires),
    ))

pub body-requires-clause-room : goal.body-requires-clause-room
body-requires-clause-room c =
    let f = found c.self.inside.words.items c.args.self.now c.args.place.0 c.self.view_is
    c.self.invariant c.requires in
    rw c.as_slice.ensures.value (omega (arith, total f, count_at f))

pub body-requires-clause-codes : goal.body-requires-clause-codes
body-requires-clause-codes c = rw c.as_slice.ensures.value
    (codes (found c.self.inside.words.items c.args.self.now c.args.place.0 c.self.view_is
    c.self.invariant c.requires))

pub returns : goal.returns
returns c = rw (c.body.ensures, c.as_slice.ensures.value)
    (lits_are (found c.self.inside.words.items c.args.self.now c.args.place.0 c.self.view_is
    c.self.invariant c.requires))
