use Rattle.std.proofs.Common.{◌<◌, ◌+◌, Some, get_or, sym, ap, ◌∙◌, subst}
use Rattle.std.specs.Prelude.{All, IsSome}
use Rattle.std.proofs.lemmas.List.{get_or_default}
use Rattle.gr_logic.specs.Literals.{Literal, var_of}
use Rattle.gr_trail.specs.Trails.{assigned_to}
use Rattle.gr_strengthen.specs.Reaching.{AreFollowed, IsMore, with_clause_of}
use Rattle.gr_strengthen.specs.Reached.{reach_in}
use Rattle.gr_strengthen.proofs.Reached.{value-some, reason-some, followed-has, followed-assigned, follows}
use Rattle.gr_strengthen.proofs.reaching.follow.Goals as goal

pub reason-requires : goal.reason-requires
reason-requires c =
    let var = get_or c.all.result.now c.args.index 0 in
    value-some c.args.arena.now c.args.trail.now (reach_in c.args.reached.now) c.args.index var c.requires.graph
    c.requires.followed c.requires.within
    (ap (λ xs. get_or xs c.args.index 0) c.all.ensures.all
    ∙ get_or_default c.args.reached.now.forced.marked c.args.index 0 var c.requires.within)

pub unwrap-reason-requires : goal.unwrap-reason-requires
unwrap-reason-requires c =
    let var = get_or c.all.result.now c.args.index 0 in
    reason-some c.args.arena.now c.args.trail.now (reach_in c.args.reached.now) c.args.index var c.requires.graph
    c.requires.followed c.requires.within
    (ap (λ xs. get_or xs c.args.index 0) c.all.ensures.all
    ∙ get_or_default c.args.reached.now.forced.marked c.args.index 0 var c.requires.within)
    c.reason.result c.reason.ensures

pub lits-requires : goal.lits-requires
lits-requires c =
    let var = get_or c.all.result.now c.args.index 0 in
    followed-has c.args.arena.now c.args.trail.now (reach_in c.args.reached.now) c.args.index var c.requires.graph
    c.requires.followed c.requires.within
    (ap (λ xs. get_or xs c.args.index 0) c.all.ensures.all
    ∙ get_or_default c.args.reached.now.forced.marked c.args.index 0 var c.requires.within)
    c.unwrap-reason.result (c.reason.ensures ∙ ap Some c.unwrap-reason.ensures)

pub meet-requires-clause-known : goal.meet-requires-clause-known
meet-requires-clause-known c =
    let var = get_or c.all.result.now c.args.index 0 in
    subst (All (λ (l : Literal). l.index < c.args.trail.now.vars)) (sym c.lits.ensures)
    (c.requires.graph.known c.unwrap-reason.result
    (followed-has c.args.arena.now c.args.trail.now (reach_in c.args.reached.now) c.args.index var c.requires.graph
    c.requires.followed c.requires.within
    (ap (λ xs. get_or xs c.args.index 0) c.all.ensures.all
    ∙ get_or_default c.args.reached.now.forced.marked c.args.index 0 var c.requires.within)
    c.unwrap-reason.result (c.reason.ensures ∙ ap Some c.unwrap-reason.ensures)))

pub meet-requires-clause-valued : goal.meet-requires-clause-valued
meet-requires-clause-valued c =
    let var = get_or c.all.result.now c.args.index 0 in
    subst (All (λ (l : Literal). IsSome (assigned_to c.args.trail.now.assigned (var_of l)))) (sym c.lits.ensures)
    (followed-assigned c.args.arena.now c.args.trail.now (reach_in c.args.reached.now) c.args.index var
    c.requires.graph c.requires.followed c.requires.within
    (ap (λ xs. get_or xs c.args.index 0) c.all.ensures.all
    ∙ get_or_default c.args.reached.now.forced.marked c.args.index 0 var c.requires.within)
    c.unwrap-reason.result (c.reason.ensures ∙ ap Some c.unwrap-reason.ensures))

pub returns-clause-followed : goal.returns-clause-followed
returns-clause-followed c =
    let var = get_or c.all.result.now c.args.index 0 in
    subst (λ r. AreFollowed c.args.arena.now c.args.trail.now.assigned r (c.args.index + 1))
    (sym (c.meet.ensures.met
    ∙ ap (with_clause_of c.args.trail.now.assigned (reach_in c.args.reached.now)) c.lits.ensures))
    (follows c.args.arena.now c.args.trail.now (reach_in c.args.reached.now) c.args.index var c.requires.graph
    c.requires.followed c.requires.within
    (ap (λ xs. get_or xs c.args.index 0) c.all.ensures.all
    ∙ get_or_default c.args.reached.now.forced.marked c.args.index 0 var c.requires.within)
    c.unwrap-reason.result (c.reason.ensures ∙ ap Some c.unwrap-reason.ensures)).0

pub returns-clause-more : goal.returns-clause-more
returns-clause-more c =
    let var = get_or c.all.result.now c.args.index 0 in
    subst (IsMore (reach_in c.args.reached.now))
    (sym (c.meet.ensures.met
    ∙ ap (with_clause_of c.args.trail.now.assigned (reach_in c.args.reached.now)) c.lits.ensures))
    (follows c.args.arena.now c.args.trail.now (reach_in c.args.reached.now) c.args.index var c.requires.graph
    c.requires.followed c.requires.within
    (ap (λ xs. get_or xs c.args.index 0) c.all.ensures.all
    ∙ get_or_default c.args.reached.now.forced.marked c.args.index 0 var c.requires.within)
    c.unwrap-reason.result (c.reason.ensures ∙ ap Some c.unwrap-reason.ensures)).1
