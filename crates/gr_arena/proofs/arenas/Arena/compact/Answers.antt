-- the old words tell the moves, and the new ones the same clauses
use Rattle.std.proofs.Common.{◌≡◌, sym, ap, ◌∙◌, subst, arith}
use Rattle.std.proofs.lemmas.List.{with_items_is}
use Rattle.gr_arena.specs.Arenas.{IsCompaction}
use Rattle.gr_arena.specs.Blocks.{blocks_in, flat, live, forwarded, arena_in}
use Rattle.gr_arena.proofs.Compactions.{laid_new, laid_moves, compaction}
use Rattle.gr_arena.proofs.arenas.Arena.compact.Goals.{After-replace}
use Rattle.gr_arena.proofs.arenas.Arena.compact.Goals as goal

-- the new words are those that were kept
copied : (c : After-replace) → c.replace.new.dest.items
    ≡ flat (live (blocks_in c.self.inside.words.items))
copied c =
    ap (λ words. words.items) c.replace.ensures.after ∙ c.relocate.ensures.kept
    ∙ ap (λ z. flat (live (blocks_in z))) c.as_mut_slice.ensures.value

-- the old words are written over
written : (c : After-replace) → c.replace.result.items
    ≡ flat (forwarded 0 (blocks_in c.self.inside.words.items))
written c =
    ap (λ words. words.items) c.replace.ensures.value
    ∙ with_items_is c.self.inside.words c.relocate.new.words
    (omega (arith, c.relocate.auto.words, c.as_mut_slice.ensures.len))
    ∙ c.relocate.ensures.words ∙ ap (λ z. flat (forwarded 0 (blocks_in z)))
    c.as_mut_slice.ensures.value

pub new-requires : goal.new-requires
new-requires c = laid_moves c.self.view_is c.self.invariant (copied c) (written c)

pub invariant_of-self : goal.invariant_of-self
invariant_of-self c =
    let replaced = (goal.at.invariant_of-self c).After-replace in
    laid_new c.self.view_is c.self.invariant (copied replaced) (written replaced)

pub returns-clause-ok : goal.returns-clause-ok
returns-clause-ok c =
    let replaced = (goal.at.returns-clause-ok c).After-replace in
    subst (IsCompaction c.args.self.now (arena_in c.replace.new.dest.items)) (sym c.new.ensures)
    (compaction c.self.view_is c.self.invariant (copied replaced) (written replaced))
