-- the literals that a visit watches
use Rattle.std.proofs.Common.{◌≡◌, ◌<◌, All, length, get_or, sym, ap, ◌∙◌, subst, arith}
use Rattle.std.proofs.lemmas.List.Sorted.{All-permutation}
use Rattle.gr_logic.specs.Literals.{Literal}
use Rattle.gr_prop.specs.Watching.{lits_at}
use Rattle.gr_prop.specs.Visits.{OthersFalse}
use Rattle.gr_prop.proofs.Endings.{head-is, others-false}
use Rattle.gr_prop.proofs.visits.visit.Goals.{After-index-lits-0, After-index-lits-k, In-None}
use Rattle.gr_prop.proofs.visits.visit.Goals as goal

-- the literals of the clause are known, in their new order
pub all-known : (c : After-index-lits-0) → All (λ (l : Literal). l.index < c.args.trail.now.vars)
    (lits_at c.bring_second.new.arena.clauses c.args.place.0)
all-known c = All-permutation (λ (l : Literal). l.index < c.args.trail.now.vars) _ _
    c.bring_second.ensures.reordered.lits c.requires.known

-- the other watched literal is the first now
pub other-is : (c : After-index-lits-0) → c.index-lits-0.result ≡ c.bring_second.ensures.turned.first
other-is c = head-is _ _ _ _ (c.index-lits-0.is ∙ ap (λ s. get_or s 0 c.index-lits-0.result) c.lits.ensures)
    c.bring_second.ensures.turned.is

-- and known
pub other-known : (c : After-index-lits-0) → c.index-lits-0.result.index < c.args.trail.now.vars
other-known c =
    let turned = c.bring_second.ensures.turned in
    let first : turned.first.index < c.args.trail.now.vars = subst
    (All (λ (l : Literal). l.index < c.args.trail.now.vars)) turned.is (all-known c) 0 turned.first (omega arith) in
    subst (λ (l : Literal). l.index < c.args.trail.now.vars) (sym (other-is c)) first

-- the literal to be watched next
pub next-high : (c : After-index-lits-k) → c.in-Some.k < length
    (lits_at c.bring_second.new.arena.clauses c.args.place.0)
next-high c = subst (λ s. c.in-Some.k < length s) c.lits-2.ensures c.in-Some.ensures.high

pub next-is : (c : After-index-lits-k) → c.index-lits-k.result
    ≡ get_or (lits_at c.bring_second.new.arena.clauses c.args.place.0) c.in-Some.k c.index-lits-k.result
next-is c = c.index-lits-k.is ∙ ap (λ s. get_or s c.in-Some.k c.index-lits-k.result) c.lits-in-Some.ensures

pub next-known : (c : After-index-lits-k) → c.index-lits-k.result.index < c.args.trail.now.vars
next-known c = subst (λ (l : Literal). l.index < c.args.trail.now.vars) (sym (next-is c))
    (all-known (goal.at.After-index-lits-k c).After-index-lits-0 c.in-Some.k c.index-lits-k.result (next-high c))

-- where there is none, all but the first are false
pub others : (c : In-None) → OthersFalse c.args.trail.now.assigned
    (lits_at c.bring_second.new.arena.clauses c.args.place.0) c.bring_second.ensures.turned.first
others c = others-false _ _ _ _ _ c.bring_second.ensures.turned.is c.requires.falsified
    (rw c.lits-2.ensures at c.in-None.ensures.none)
