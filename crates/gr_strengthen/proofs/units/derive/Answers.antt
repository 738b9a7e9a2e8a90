-- the literal stands on the trail with a reason, along whose clauses unit steps lead to it
use Rattle.std.proofs.Common.{◌≡◌, ◌<◌, ◌++◌, ◌∷◌, [], length, Some, IsSome, refl, sym, ap, ◌∙◌, subst}
use Rattle.std.specs.Prelude.{All}
use Rattle.gr_logic.specs.Literals.{Literal, var_of}
use Rattle.gr_arena.specs.Arenas.{Has}
use Rattle.gr_trail.specs.Trails.{TrailState, assigned_to}
use Rattle.gr_hints.specs.Gathering.{reason_ids}
use Rattle.gr_hints.specs.Graphs.{IsGraph}
use Rattle.gr_strengthen.specs.Reached.{reach_in}
use Rattle.gr_strengthen.specs.Reaching.{IsReached}
use Rattle.gr_strengthen.proofs.Graphing.{base-graph}
use Rattle.gr_strengthen.proofs.Reached.{reason-assigned}
use Rattle.gr_strengthen.proofs.UnitFacts.{StandsAt, stands, stands-some, stands-by, reason-there, is-missing, low-reason}
use Rattle.gr_strengthen.proofs.units.derive.Goals.{After-trail_of-trail, After-var, After-unwrap-reason}
use Rattle.gr_strengthen.proofs.units.derive.Goals as goal

graph : (c : After-trail_of-trail) → IsGraph c.arena-arena.result.now c.trail_of-trail.result.now
graph c =
    base-graph c.args.base.now c.arena-arena.result.now c.trail_of-trail.result.now
    c.arena-arena.ensures.base c.arena-arena.ensures.clauses c.trail_of-trail.ensures.trail
    c.trail_of-trail.ensures.is_trail c.arena-arena.ensures.normal c.arena-arena.ensures.known

standing : (c : After-var) → StandsAt c.trail_of-trail.result.now c.args.index c.index-lits-index.result
standing c = stands c.trail_of-trail.result.now c.lits.result.now c.args.index c.index-lits-index.result
    c.lits.ensures.trail c.lits.ensures.lits
    (subst (λ (u : TrailState). c.args.index < length u.assigned) (sym c.trail_of-trail.ensures.trail)
    c.requires.within) c.index-lits-index.is

-- the reason is the one that is read
by : (c : After-unwrap-reason)
    → (standing (goal.at.After-unwrap-reason c).After-var).is.reason ≡ Some c.unwrap-reason.result
by c = stands-by c.trail_of-trail.result.now c.args.index c.index-lits-index.result c.var.result
    (Some c.unwrap-reason.result) (standing (goal.at.After-unwrap-reason c).After-var)
    c.var.ensures.number (c.reason.ensures ∙ ap Some c.unwrap-reason.ensures)

there : (c : After-unwrap-reason) → Has c.arena-arena.result.now c.unwrap-reason.result
there c = reason-there c.args.base.now c.arena-arena.result.now c.trail_of-trail.result.now c.args.index
    c.index-lits-index.result (graph (goal.at.After-unwrap-reason c).After-trail_of-trail)
    c.arena-arena.ensures.clauses c.trail_of-trail.ensures.trail
    (standing (goal.at.After-unwrap-reason c).After-var) c.unwrap-reason.result (by c)

pub reason-requires : goal.reason-requires
reason-requires c =
    stands-some c.trail_of-trail.result.now c.args.index c.index-lits-index.result c.var.result
    (standing (goal.at.reason-requires c).After-var) c.var.ensures.number

pub unwrap-reason-requires : goal.unwrap-reason-requires
unwrap-reason-requires c =
    let t = c.trail_of-trail.result.now in
    let l = c.index-lits-index.result in
    let s = standing (goal.at.unwrap-reason-requires c).After-var in
    low-reason c.args.base.now t c.args.index l c.reason.result c.trail_of-trail.ensures.trail s c.requires.low
    (stands-by t c.args.index l c.var.result c.reason.result s c.var.ensures.number c.reason.ensures)

pub lits-source-requires : goal.lits-source-requires
lits-source-requires c = there (goal.at.lits-source-requires c).After-unwrap-reason

pub id-requires : goal.id-requires
id-requires c = there (goal.at.id-requires c).After-unwrap-reason

pub reach-requires-clause-graph : goal.reach-requires-clause-graph
reach-requires-clause-graph c = graph (goal.at.reach-requires-clause-graph c).After-trail_of-trail

pub cite-requires-clause-graph : goal.cite-requires-clause-graph
cite-requires-clause-graph c = graph (goal.at.cite-requires-clause-graph c).After-trail_of-trail

pub reach-requires-clause-valued : goal.reach-requires-clause-valued
reach-requires-clause-valued c =
    let t = c.trail_of-trail.result.now in
    let at = goal.at.reach-requires-clause-valued c in
    let s = standing at.After-var in
    subst (All (λ (q : Literal). IsSome (assigned_to t.assigned (var_of q)))) (sym c.lits-source.ensures)
    (reason-assigned c.arena-arena.result.now t (var_of c.index-lits-index.result) s.is
    c.unwrap-reason.result (graph at.After-trail_of-trail) s.to (by at.After-unwrap-reason))

pub returns-clause-unit : goal.returns-clause-unit
returns-clause-unit c k is =
    let t = c.trail_of-trail.result.now in
    let l = c.index-lits-index.result in
    let at = goal.at.returns-clause-unit c in
    is-missing c.args.base.now c.arena-arena.result.now t c.args.index l (graph at.After-trail_of-trail)
    c.arena-arena.ensures.clauses c.trail_of-trail.ensures.trail (standing at.After-var)
    c.unwrap-reason.result (by at.After-unwrap-reason) c.requires.low
    (c.arena-arena.ensures.base.closed c.requires.quiet) c.requires.settled c.requires.unsettled
    c.requires.within k is (reach_in c.reach.new.reached)
    (subst (λ ls. IsReached c.arena-arena.result.now t.assigned ls (reach_in c.reach.new.reached))
    c.lits-source.ensures c.reach.ensures.reached) (record { lit = l; hints = c.in_ok-hints.hints }) refl
    c.in_ok-hints.ensures.lead (c.in_ok-hints.ensures.ids
    ∙ ap (λ n. reason_ids c.arena-arena.result.now c.reach.new.reached.forced.marked t.assigned
    ++ n ∷ []) c.id.ensures)
