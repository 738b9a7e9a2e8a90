-- the places that the test names have their clauses
use Rattle.std.specs.Prelude.{◌≡◌, IsSome, is_some, length, unwrap_or}
use Rattle.std.proofs.Common.{ap, ◌∙◌, arith}
use Rattle.std.specs.FinMap as map'
use Rattle.gr_arena.specs.Arenas.{ArenaState, no_clause}
use Rattle.gr_arena.proofs.Places.{own, still, spared, differ}
use Rattle.gr_arena.proofs.tests.keeps_the_clauses_that_were_not_removed.Goals as goal

pub swap-requires-clause-there : goal.swap-requires-clause-there
swap-requires-clause-there g c = ap is_some (own _ _ _ _ c.in_ok-second.ensures.clauses)

pub swap-requires-clause-first : goal.swap-requires-clause-first
swap-requires-clause-first g c =
    omega (arith, ap (λ o. length (unwrap_or o no_clause).lits) (own _ _ _ _ c.in_ok-second.ensures.clauses))

pub swap-requires-clause-second : goal.swap-requires-clause-second
swap-requires-clause-second g c =
    omega (arith, ap (λ o. length (unwrap_or o no_clause).lits) (own _ _ _ _ c.in_ok-second.ensures.clauses))

pub lits-requires : goal.lits-requires
lits-requires g c = ap is_some (own _ _ _ _ (ap (λ (a : ArenaState). a.clauses) c.swap.ensures))

pub remove-requires : goal.remove-requires
remove-requires g c =
    still _ _ _ _ _ (ap (λ (a : ArenaState). a.clauses) c.swap.ensures)
    (still _ _ _ _ _ c.in_ok-second.ensures.clauses (ap is_some (own _ _ _ _ c.in_ok-first.ensures.clauses)))

pub to-place-requires : goal.to-place-requires
to-place-requires g c =
    c.in_ok-moves.ensures.ok.moved c.in_ok-second.second.0
    ∙ ap is_some (spared _ _ _ _ (ap (λ (a : ArenaState). a.clauses) c.remove.ensures)
    (differ _ _ _ c.in_ok-second.ensures.fresh (ap is_some (own _ _ _ _ c.in_ok-first.ensures.clauses))))
    ∙ ap is_some (own _ _ _ _ (ap (λ (a : ArenaState). a.clauses) c.swap.ensures))
