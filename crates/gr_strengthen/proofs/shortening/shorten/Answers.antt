use Rattle.std.proofs.Common.{length, sym, ap, ◌∙◌, subst}
use Rattle.gr_logic.specs.Formulas.{VarsUpTo}
use Rattle.gr_logic.specs.Rup.{members}
use Rattle.gr_trail.specs.Trails.{TrailState}
use Rattle.gr_strengthen.specs.Reaching.{chosen_from}
use Rattle.gr_strengthen.specs.Reached.{reach_in}
use Rattle.gr_strengthen.specs.Walking.{IsSpentBy}
use Rattle.gr_strengthen.proofs.Graphing.{base-graph}
use Rattle.gr_strengthen.proofs.Sublists.{sublist-known}
use Rattle.gr_strengthen.proofs.Shortened.{shorter-is, all-chosen, spent-valued}
use Rattle.gr_strengthen.proofs.shortening.shorten.Goals as goal

pub reach-requires-clause-graph : goal.reach-requires-clause-graph
reach-requires-clause-graph c =
    base-graph c.args.base.now c.arena-arena.result.now c.trail_of-trail.result.now c.arena-arena.ensures.base
    c.arena-arena.ensures.clauses c.trail_of-trail.ensures.trail c.trail_of-trail.ensures.is_trail
    c.arena-arena.ensures.normal c.arena-arena.ensures.known

pub reach-requires-clause-valued : goal.reach-requires-clause-valued
reach-requires-clause-valued c =
    spent-valued c.trail_of-trail.result.now c.args.notes.now.kept c.args.source.now
    (subst (λ (t : TrailState). IsSpentBy t.assigned c.args.notes.now.kept (members c.args.source.now))
    (sym c.trail_of-trail.ensures.trail) c.requires.spent)

pub choose-requires-clause-known : goal.choose-requires-clause-known
choose-requires-clause-known c =
    subst (λ (t : TrailState). VarsUpTo t.vars c.lits.result.now) (sym c.trail_of-trail.ensures.trail)
    (subst (VarsUpTo c.args.base.now.trail.vars) (sym c.lits.ensures)
    (sublist-known c.args.base.now.trail.vars c.args.notes.now.kept c.args.clause.now c.requires.part c.requires.known))

pub returns-then-lits-clause-clause-outcome : goal.returns-then-lits-clause-clause-outcome
returns-then-lits-clause-clause-outcome c k id is none named greedy =
    all-chosen k c.trail_of-trail.result.now.assigned c.args.clause.now c.args.notes.now.kept c.choose.new.chosen
    c.reach.new.reached.decided.marked greedy c.requires.part
    (c.in_ok-choose.ensures ∙ ap (chosen_from c.trail_of-trail.result.now.assigned c.reach.new.reached.decided.marked)
    c.lits.ensures)
    (ap length (sym c.lits-2.ensures) ∙ c.if-lits-clause.true)

pub cite-requires-clause-graph : goal.cite-requires-clause-graph
cite-requires-clause-graph c =
    base-graph c.args.base.now c.arena-arena.result.now c.trail_of-trail.result.now c.arena-arena.ensures.base
    c.arena-arena.ensures.clauses c.trail_of-trail.ensures.trail c.trail_of-trail.ensures.is_trail
    c.arena-arena.ensures.normal c.arena-arena.ensures.known

pub returns-clause-outcome : goal.returns-clause-outcome
returns-clause-outcome c k id is none named greedy =
    shorter-is k id c.args.base.now c.arena-arena.result.now c.trail_of-trail.result.now c.args.clause.now
    c.args.source.now c.args.notes.now.kept c.in_ok-clause.clause (reach_in c.reach.new.reached) c.args.last
    c.in_ok-hints.hints is none named greedy c.arena-arena.ensures.clauses c.trail_of-trail.ensures.trail
    (base-graph c.args.base.now c.arena-arena.result.now c.trail_of-trail.result.now c.arena-arena.ensures.base
    c.arena-arena.ensures.clauses c.trail_of-trail.ensures.trail c.trail_of-trail.ensures.is_trail
    c.arena-arena.ensures.normal c.arena-arena.ensures.known)
    c.reach.ensures.reached c.requires.decided c.requires.spent c.requires.part c.requires.normal c.requires.known
    (c.in_ok-clause.ensures ∙ c.lits-3.ensures ∙ c.in_ok-choose.ensures
    ∙ ap (chosen_from c.trail_of-trail.result.now.assigned c.reach.new.reached.decided.marked) c.lits.ensures)
    (λ e. c.if-lits-clause.false (ap length (c.lits-2.ensures ∙ sym c.lits-3.ensures ∙ sym c.in_ok-clause.ensures) ∙ e))
    c.in_ok-hints.ensures.lead c.in_ok-hints.ensures.ids
