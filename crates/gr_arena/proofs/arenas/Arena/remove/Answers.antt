use Rattle.std.proofs.Common.{arith, sym, ap, subst, ◌∙◌, ◌≡◌, ◌+◌, length, length-set}
use Rattle.std.proofs.lemmas.List.{with_items_is}
use Rattle.gr_arena.specs.Blocks.{Laid, arena_in, word, bits_at}
use Rattle.gr_arena.proofs.Runs.{found, total, count_at, fits}
use Rattle.gr_arena.proofs.Changes.{remove_laid, remove_arena}
use Rattle.std.proofs.Common.{set}
use Rattle.std.specs.Vec.{with_items}
use Rattle.gr_arena.proofs.arenas.Arena.remove.Goals as goal

pub mark-requires-clause-room : goal.mark-requires-clause-room
mark-requires-clause-room c = rw c.as_mut_slice.ensures.value
    (omega (
      arith,
      total (found c.self.inside.words.items c.args.self.now c.args.place.0
          c.self.view_is c.self.invariant c.requires),
    ))

pub mark-requires-clause-live : goal.mark-requires-clause-live
mark-requires-clause-live c =
    let f = found c.self.inside.words.items c.args.self.now c.args.place.0 c.self.view_is
    c.self.invariant c.requires in
    rw c.as_mut_slice.ensures.value (omega (arith, count_at f, (fits f).0))

items : (c : goal.After-self-1) → (with_items c.self.inside.words c.mark.new.words).items
    ≡ set c.self.inside.words.items (c.args.place.0 + 3)
    (word (bits_at c.self.inside.words.items (c.args.place.0 + 3) + 2_147_483_648))
items c =
    with_items_is c.self.inside.words c.mark.new.words (ap length c.mark.ensures ∙ length-set _ _ _
    ∙ c.as_mut_slice.ensures.len)
    ∙ c.mark.ensures ∙ ap (λ z. set z (c.args.place.0 + 3)
    (word (bits_at z (c.args.place.0 + 3) + 2_147_483_648))) c.as_mut_slice.ensures.value

pub invariant_of-self : goal.invariant_of-self
invariant_of-self c =
    let f = found c.self.inside.words.items c.args.self.now c.args.place.0 c.self.view_is
    c.self.invariant c.requires in
    subst Laid (sym (items c)) (remove_laid c.self.inside.words.items c.args.self.now c.args.place.0
    c.self.view_is f)

pub returns : goal.returns
returns c =
    let f = found c.self.inside.words.items c.args.self.now c.args.place.0 c.self.view_is
    c.self.invariant c.requires in
    ap arena_in (items c) ∙ remove_arena c.self.inside.words.items c.args.self.now c.args.place.0
    c.self.view_is f
