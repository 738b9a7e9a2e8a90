use Rattle.std.proofs.Common.{◌<◌, ◌≤◌, length, get_or, ap, sym, ◌∙◌, subst, arith}
use Rattle.gr_logic.specs.Literals.{negation}
use Rattle.gr_trail.specs.Trails.{true_in}
use Rattle.gr_prop.specs.Watching.{lits_at}
use Rattle.gr_prop.specs.Visits.{IsReordered}
use Rattle.gr_prop.proofs.Stores.{swapped-reordered, lits-swapped}
use Rattle.gr_prop.proofs.Arranging.{swapped-fronted}
use Rattle.gr_prop.proofs.additions.bring_free.Goals as goal

pub returns-in-Some-clause-reordered : goal.returns-in-Some-clause-reordered
returns-in-Some-clause-reordered c =
    let high : c.in-Some.k < length (lits_at c.args.arena.now.clauses c.args.place.0) = subst
    (λ s. c.in-Some.k < length s) c.lits.ensures c.in-Some.ensures.high in
    let low : c.args.at ≤ c.in-Some.k = c.in-Some.ensures.low in
    subst (λ k. IsReordered c.args.arena.now.clauses k c.args.place.0) (sym (ap (λ a. a.clauses) c.swap.ensures))
    (swapped-reordered c.args.arena.now.clauses c.args.place.0 c.args.at c.in-Some.k c.requires.there (omega arith)
    high)

pub returns-in-Some-clause-fronted : goal.returns-in-Some-clause-fronted
returns-in-Some-clause-fronted c =
    let high : c.in-Some.k < length (lits_at c.args.arena.now.clauses c.args.place.0) = subst
    (λ s. c.in-Some.k < length s) c.lits.ensures c.in-Some.ensures.high in
    swapped-fronted c.args.trail.now.assigned (lits_at c.args.arena.now.clauses c.args.place.0) _ c.args.at
    c.in-Some.k c.in-Some.ensures.low high
    (ap (λ a. lits_at a.clauses c.args.place.0) c.swap.ensures ∙ lits-swapped c.args.arena.now.clauses c.args.place.0
    c.args.at c.in-Some.k)
    (λ d. ap (λ s. true_in c.args.trail.now.assigned (negation (get_or s c.in-Some.k d))) (sym c.lits.ensures) ∙
    c.in-Some.ensures.free d)
