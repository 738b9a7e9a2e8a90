-- the literal stands on the trail, and its reason is read
use Rattle.std.proofs.Common.{◌≡◌, ◌≢◌, ◌<◌, length, Some, None, sym, ap, ◌∙◌, subst, arith}
use Rattle.std.proofs.lemmas.Bool.Decides.{nat_tests}
use Rattle.gr_trail.specs.Trails.{TrailState}
use Rattle.gr_hints.specs.Graphs.{IsGraph}
use Rattle.gr_strengthen.proofs.Graphing.{base-graph}
use Rattle.gr_strengthen.proofs.UnitFacts.{StandsAt, stands, stands-some, stands-by, reason-there, has-unit, has-no-unit, no-unit-reason}
use Rattle.gr_strengthen.proofs.units.is_settled.Goals.{After-var, After-arena}
use Rattle.gr_strengthen.proofs.units.is_settled.Goals as goal

standing : (c : After-var) → StandsAt c.trail-trail.result.now c.args.index c.index-lits-index.result
standing c = stands c.trail-trail.result.now c.lits.result.now c.args.index c.index-lits-index.result
    c.lits.ensures.trail c.lits.ensures.lits
    (subst (λ (u : TrailState). c.args.index < length u.assigned) (sym c.trail-trail.ensures.trail)
    c.requires.within) c.index-lits-index.is

-- the reason is the one that is read
by : (c : After-arena) → (standing (goal.at.After-arena c).After-var).is.reason ≡ Some c.in-Some.place
by c = stands-by c.trail-trail.result.now c.args.index c.index-lits-index.result c.var.result
    (Some c.in-Some.place) (standing (goal.at.After-arena c).After-var) c.var.ensures.number
    (c.reason.ensures ∙ ap Some c.in-Some.is)

graph : (c : After-arena) → IsGraph c.arena.result.now c.trail-trail.result.now
graph c = base-graph c.args.base.now c.arena.result.now c.trail-trail.result.now c.arena.ensures.base
    c.arena.ensures.clauses c.trail-trail.ensures.trail c.lits.ensures.trail c.arena.ensures.normal
    c.arena.ensures.known

pub reason-requires : goal.reason-requires
reason-requires c =
    stands-some c.trail-trail.result.now c.args.index c.index-lits-index.result c.var.result
    (standing (goal.at.reason-requires c).After-var) c.var.ensures.number

pub lits-requires-in-Some : goal.lits-requires-in-Some
lits-requires-in-Some c =
    let at = goal.at.lits-requires-in-Some c in
    reason-there c.args.base.now c.arena.result.now c.trail-trail.result.now c.args.index
    c.index-lits-index.result (graph at.After-arena) c.arena.ensures.clauses c.trail-trail.ensures.trail
    (standing at.After-var) c.in-Some.place (by at.After-arena)

pub returns-in-Some-clause-yes : goal.returns-in-Some-clause-yes
returns-in-Some-clause-yes c d e =
    let at = goal.at.returns-in-Some-clause-yes c in
    let long : length c.lits-in-Some.result.now ≡ 1 = grind (arith, nat_tests, e) in
    has-unit c.args.base.now c.arena.result.now c.trail-trail.result.now c.args.index
    c.index-lits-index.result (graph at.After-arena) c.arena.ensures.clauses c.trail-trail.ensures.trail
    (standing at.After-var) c.in-Some.place (by at.After-arena) d
    (ap length (sym c.lits-in-Some.ensures) ∙ long)

pub returns-in-Some-clause-no : goal.returns-in-Some-clause-no
returns-in-Some-clause-no c d e =
    let at = goal.at.returns-in-Some-clause-no c in
    let long : length c.lits-in-Some.result.now ≢ 1 = grind (arith, nat_tests, e) in
    has-no-unit c.args.base.now c.arena.result.now c.trail-trail.result.now c.args.index
    c.index-lits-index.result (graph at.After-arena) c.arena.ensures.clauses c.trail-trail.ensures.trail
    (standing at.After-var) c.in-Some.place (by at.After-arena) d
    (λ f. long (ap length c.lits-in-Some.ensures ∙ f))

pub returns-in-None-clause-no : goal.returns-in-None-clause-no
returns-in-None-clause-no c d e =
    let s = standing (goal.at.returns-in-None-clause-no c).After-var in
    no-unit-reason c.args.base.now c.trail-trail.result.now c.args.index c.index-lits-index.result
    c.trail-trail.ensures.trail s d
    (stands-by c.trail-trail.result.now c.args.index c.index-lits-index.result c.var.result None s
    c.var.ensures.number (c.reason.ensures ∙ ap Some c.in-None.is))
