use Rattle.std.proofs.Common.{◌<◌, ◌≤◌, length, subst, arith}
use Rattle.std.proofs.lemmas.List.Sorted.{All-permutation, length_permutation}
use Rattle.gr_logic.specs.Literals.{Literal}
use Rattle.gr_prop.specs.Watching.{lits_at}
use Rattle.gr_prop.proofs.Stores.{reordered-on}
use Rattle.gr_prop.proofs.Arranging.{arranged}
use Rattle.gr_prop.proofs.additions.arrange.Goals as goal

pub bring_free-requires-2-clause-known : goal.bring_free-requires-2-clause-known
bring_free-requires-2-clause-known c = All-permutation (λ (l : Literal). l.index < c.args.trail.now.vars) _ _
    c.bring_free.ensures.reordered.lits c.requires.known

pub bring_free-requires-2-clause-within : goal.bring_free-requires-2-clause-within
bring_free-requires-2-clause-within c =
    let long : 2 ≤ length (lits_at c.args.arena.now.clauses c.args.place.0) = subst (λ s. 2 ≤ length s)
    c.lits.ensures c.if-lits-lt2.false in
    let same = length_permutation _ _ c.bring_free.ensures.reordered.lits in
    omega arith

pub returns-clause-reordered : goal.returns-clause-reordered
returns-clause-reordered c = reordered-on _ c.bring_free.new.arena.clauses _ c.args.place.0
    c.bring_free.ensures.reordered c.bring_free-2.ensures.reordered

pub returns-clause-arranged : goal.returns-clause-arranged
returns-clause-arranged c = λ _.
    let long : 2 ≤ length (lits_at c.args.arena.now.clauses c.args.place.0) = subst (λ s. 2 ≤ length s)
    c.lits.ensures c.if-lits-lt2.false in
    let same = length_permutation _ _ c.bring_free.ensures.reordered.lits in
    arranged c.args.trail.now.assigned (lits_at c.args.arena.now.clauses c.args.place.0)
    (lits_at c.bring_free.new.arena.clauses c.args.place.0) _
    c.bring_free-2.ensures.reordered.lits (omega arith) c.bring_free.ensures.fronted c.bring_free-2.ensures.fronted
