use Rattle.std.proofs.Common.{get_or, refl, sym, ap, ◌∙◌, subst, arith}
use Rattle.gr_prop.specs.Watching.{lits_at}
use Rattle.gr_prop.specs.Visits.{IsReordered}
use Rattle.gr_prop.proofs.Stores.{swapped-reordered, lits-swapped, reordered-itself}
use Rattle.gr_prop.proofs.Endings.{turned-swap, turned-already, watched-long, same-code, other-code}
use Rattle.gr_prop.proofs.visits.bring_second.Goals as goal

pub returns-then-eq-clause-reordered : goal.returns-then-eq-clause-reordered
returns-then-eq-clause-reordered c =
    let long = watched-long _ _ c.requires.watched in
    subst (λ k. IsReordered c.args.arena.now.clauses k c.args.place.0) (sym (ap (λ a. a.clauses) c.swap.ensures))
    (swapped-reordered c.args.arena.now.clauses c.args.place.0 0 1 c.requires.there (omega arith) (omega arith))

pub returns-then-eq-clause-turned : goal.returns-then-eq-clause-turned
returns-then-eq-clause-turned c =
    turned-swap _ _ c.args.gone c.index-lits-0.result c.requires.watched
    (c.index-lits-0.is ∙ ap (λ s. get_or s 0 c.index-lits-0.result) c.lits.ensures)
    (same-code c.index-lits-0.result c.args.gone (sym c.eq.ensures ∙ c.if-eq.true))
    (ap (λ a. lits_at a.clauses c.args.place.0) c.swap.ensures ∙ lits-swapped c.args.arena.now.clauses c.args.place.0
    0 1)

pub returns-else-eq-clause-reordered : goal.returns-else-eq-clause-reordered
returns-else-eq-clause-reordered c = reordered-itself c.args.arena.now.clauses c.args.place.0 c.requires.there

pub returns-else-eq-clause-turned : goal.returns-else-eq-clause-turned
returns-else-eq-clause-turned c =
    turned-already _ _ c.args.gone c.index-lits-0.result c.requires.watched
    (c.index-lits-0.is ∙ ap (λ s. get_or s 0 c.index-lits-0.result) c.lits.ensures)
    (other-code c.index-lits-0.result c.args.gone (sym c.eq.ensures ∙ c.if-eq.false)) refl
