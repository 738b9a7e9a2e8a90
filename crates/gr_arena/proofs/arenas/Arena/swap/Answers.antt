use Rattle.std.proofs.Common.{arith, sym, ap, subst, ◌∙◌, ◌≡◌, ◌+◌, length}
use Rattle.std.proofs.lemmas.List.{with_items_is}
use Rattle.std.proofs.lemmas.List.Edits.{length-swap}
use Rattle.std.specs.List.{swap}
use Rattle.std.specs.Vec.{with_items}
use Rattle.gr_arena.specs.Blocks.{Laid, arena_in}
use Rattle.gr_arena.proofs.Runs.{found, total}
use Rattle.gr_arena.proofs.Changes.{swap_laid, swap_arena, in_lits}
use Rattle.gr_arena.proofs.arenas.Arena.swap.Goals as goal

pub swap_in-requires-clause-first : goal.swap_in-requires-clause-first
swap_in-requires-clause-first c =
    let f = found c.self.inside.words.items c.args.self.now c.args.place.0 c.self.view_is
    c.self.invariant c.requires.there in
    rw c.as_mut_slice.ensures.value (omega (
      arith,
      total f,
      in_lits c.self.inside.words.items
          c.args.self.now c.args.place.0 c.self.view_is f c.args.i c.requires.first,
    ))

pub swap_in-requires-clause-second : goal.swap_in-requires-clause-second
swap_in-requires-clause-second c =
    let f = found c.self.inside.words.items c.args.self.now c.args.place.0 c.self.view_is
    c.self.invariant c.requires.there in
    rw c.as_mut_slice.ensures.value (omega (
      arith,
      total f,
      in_lits c.self.inside.words.items
          c.args.self.now c.args.place.0 c.self.view_is f c.args.j c.requires.second,
    ))

items : (c : goal.After-self-1) → (with_items c.self.inside.words c.swap_in.new.words).items
    ≡ swap c.self.inside.words.items (c.args.place.0 + 4 + c.args.i) (c.args.place.0 + 4 + c.args.j)
items c =
    with_items_is c.self.inside.words c.swap_in.new.words (ap length c.swap_in.ensures
    ∙ length-swap _ _ _ ∙ c.as_mut_slice.ensures.len)
    ∙ c.swap_in.ensures ∙ ap (λ z. swap z (c.args.place.0 + 4 + c.args.i)
    (c.args.place.0 + 4 + c.args.j)) c.as_mut_slice.ensures.value

pub invariant_of-self : goal.invariant_of-self
invariant_of-self c =
    let f = found c.self.inside.words.items c.args.self.now c.args.place.0 c.self.view_is
    c.self.invariant c.requires.there in
    subst Laid (sym (items c)) (swap_laid c.self.inside.words.items c.args.self.now c.args.place.0
    c.self.view_is f c.args.i c.args.j c.requires.first c.requires.second)

pub returns : goal.returns
returns c =
    let f = found c.self.inside.words.items c.args.self.now c.args.place.0 c.self.view_is
    c.self.invariant c.requires.there in
    ap arena_in (items c) ∙ swap_arena c.self.inside.words.items c.args.self.now c.args.place.0
    c.self.view_is f c.args.i c.args.j c.requires.first c.requires.second
