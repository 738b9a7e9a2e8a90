-- the clause whose next watched literal has changed places with the false one
use Rattle.std.proofs.Common.{◌≡◌, ◌<◌, ◌∷◌, List, length, sym, ap, ◌∙◌, subst, arith}
use Rattle.std.specs.List.{swap}
use Rattle.std.proofs.lemmas.List.Sorted.{length_permutation}
use Rattle.gr_logic.specs.Literals.{Literal}
use Rattle.gr_prop.specs.Watching.{lits_at}
use Rattle.gr_prop.specs.Visits.{IsReordered, IsTurned}
use Rattle.gr_prop.proofs.Stores.{swapped-reordered, lits-swapped, reordered-on}
use Rattle.gr_prop.proofs.Endings.{moved-is, swapped-back}
use Rattle.gr_prop.proofs.visits.visit.Answers.Watched.{next-high, next-is}
use Rattle.gr_prop.proofs.visits.visit.Goals.{After-index-lits-k, After-swap, After-swap-in-Err}
use Rattle.gr_prop.proofs.visits.visit.Goals as goal

-- its literals are those that it had
pub once : (c : After-swap) → IsReordered c.bring_second.new.arena.clauses c.swap.new.self.clauses c.args.place.0
once c =
    let high : c.in-Some.k < length (lits_at c.bring_second.new.arena.clauses c.args.place.0) =
    next-high (goal.at.After-swap c).After-index-lits-k in
    subst (λ k. IsReordered c.bring_second.new.arena.clauses k c.args.place.0)
    (sym (ap (λ a. a.clauses) c.swap.ensures))
    (swapped-reordered c.bring_second.new.arena.clauses c.args.place.0 1 c.in-Some.k
    c.bring_second.ensures.reordered.there (omega (arith, c.in-Some.ensures.low)) high)

-- in this order
pub lits-once : (c : After-swap) → lits_at c.swap.new.self.clauses c.args.place.0
    ≡ swap (lits_at c.bring_second.new.arena.clauses c.args.place.0) 1 c.in-Some.k
lits-once c =
    ap (λ a. lits_at a.clauses c.args.place.0) c.swap.ensures
    ∙ lits-swapped c.bring_second.new.arena.clauses c.args.place.0 1 c.in-Some.k

-- the next watched literal is the second now
pub next-second : (c : After-swap) → (left : List Literal) × (lits_at c.swap.new.self.clauses c.args.place.0
    ≡ c.bring_second.ensures.turned.first ∷ c.index-lits-k.result ∷ left)
next-second c =
    let turned = c.bring_second.ensures.turned in
    let k = (goal.at.After-swap c).After-index-lits-k in
    moved-is _ (lits_at c.swap.new.self.clauses c.args.place.0) turned.first c.args.gone turned.rest c.in-Some.k
    c.index-lits-k.result turned.is c.in-Some.ensures.low (next-is k) (next-high k) (lits-once c)

-- and the false one is among them
pub swapped-high : (c : After-swap) → c.in-Some.k < length (lits_at c.swap.new.self.clauses c.args.place.0)
swapped-high c = subst (λ n. c.in-Some.k < n) (sym (length_permutation _ _ (once c).lits))
    (next-high (goal.at.After-swap c).After-index-lits-k)

-- where memory was wanting they change places again: the literals are those that the clause had
pub back-reordered : (c : After-swap-in-Err) → IsReordered c.args.arena.now.clauses c.swap-in-Err.new.self.clauses
    c.args.place.0
back-reordered c =
    let swapped = (goal.at.After-swap-in-Err c).After-swap in
    let high = swapped-high swapped in
    reordered-on _ _ _ c.args.place.0 c.bring_second.ensures.reordered
    (reordered-on _ c.swap.new.self.clauses _ c.args.place.0 (once swapped)
    (subst (λ k. IsReordered c.swap.new.self.clauses k c.args.place.0)
    (sym (ap (λ a. a.clauses) c.swap-in-Err.ensures))
    (swapped-reordered c.swap.new.self.clauses c.args.place.0 1 c.in-Some.k (once swapped).there
    (omega (arith, high, c.in-Some.ensures.low)) high)))

-- and they stand where they stood before
pub back-turned : (c : After-swap-in-Err) → IsTurned (lits_at c.args.arena.now.clauses c.args.place.0)
    (lits_at c.swap-in-Err.new.self.clauses c.args.place.0) c.args.gone
back-turned c =
    let swapped = (goal.at.After-swap-in-Err c).After-swap in
    let turned = c.bring_second.ensures.turned in
    let high : c.in-Some.k < length (turned.first ∷ c.args.gone ∷ turned.rest) =
    subst (λ s. c.in-Some.k < length s) turned.is (next-high (goal.at.After-swap-in-Err c).After-index-lits-k) in
    record {
      first = turned.first;
      rest = turned.rest;
      is = ap (λ a. lits_at a.clauses c.args.place.0) c.swap-in-Err.ensures
          ∙ lits-swapped c.swap.new.self.clauses c.args.place.0 1 c.in-Some.k
          ∙ ap (λ s. swap s 1 c.in-Some.k) (lits-once swapped)
          ∙ ap (λ s. swap (swap s 1 c.in-Some.k) 1 c.in-Some.k) turned.is
          ∙ swapped-back turned.first c.args.gone turned.rest c.in-Some.k c.in-Some.ensures.low high;
      was = turned.was;
    }
