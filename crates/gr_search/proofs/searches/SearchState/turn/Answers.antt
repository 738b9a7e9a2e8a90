-- the solver's turn is the search's
use Rattle.std.proofs.Common.{sym, subst}
use Rattle.gr_search.specs.SolverViews.{view_of}
use Rattle.gr_search.specs.Tellings.{Answers}
use Rattle.gr_search.specs.Turns.{IsTurn}
use Rattle.gr_search.proofs.Telling.{not-done, may-be-told}
use Rattle.gr_search.proofs.Turning.{is-turn, still-searching, has-short-clause}
use Rattle.gr_search.proofs.searches.SearchState.turn.Goals as goal

pub turn-requires-clause-told : goal.turn-requires-clause-told
turn-requires-clause-told c =
    let told : Answers (view_of c.self.inside.formula.now c.self.inside.solver) c.args.told =
    subst (λ v. Answers v c.args.told) (sym c.self.view_is) c.requires.answers in
    may-be-told c.self.inside.formula.now c.self.inside.solver c.trail-before.ensures.base.ids
    (c.self.invariant (not-done c.self.inside.formula.now c.self.inside.solver c.args.told told)) c.args.told told

pub invariant_of-self : goal.invariant_of-self
invariant_of-self c =
    still-searching c.self.inside.formula.now c.self.inside.solver c.turn.new.self c.args.told c.in-Ok.ask
    c.clauses-clauses.ensures.within c.self.invariant c.trail-before.ensures.base c.trail-after.ensures.base
    c.trail-after.ensures.legal (subst (λ v. Answers v c.args.told) (sym c.self.view_is) c.requires.answers)
    c.in-Ok.ensures.waiting c.in-Ok.ensures.turned

pub returns-in-Ok-clause-turn : goal.returns-in-Ok-clause-turn
returns-in-Ok-clause-turn c =
    subst (λ v. IsTurn v c.args.told c.in-Ok.ask (view_of c.self.inside.formula.now c.turn.new.self)) c.self.view_is
    (is-turn c.self.inside.formula.now c.self.inside.solver c.turn.new.self c.args.told c.in-Ok.ask
    c.clauses-clauses.ensures.within c.self.invariant c.trail-before.ensures.base c.trail-after.ensures.base
    c.trail-after.ensures.legal (subst (λ v. Answers v c.args.told) (sym c.self.view_is) c.requires.answers)
    c.in-Ok.ensures.waiting c.in-Ok.ensures.turned)

pub returns-in-Ok-clause-short : goal.returns-in-Ok-clause-short
returns-in-Ok-clause-short c =
    has-short-clause c.self.inside.formula.now c.self.inside.solver c.turn.new.self c.args.told c.in-Ok.ask
    c.clauses-clauses.ensures.within c.self.invariant c.trail-before.ensures.base c.trail-after.ensures.base
    c.trail-after.ensures.legal (subst (λ v. Answers v c.args.told) (sym c.self.view_is) c.requires.answers)
    c.in-Ok.ensures.waiting c.in-Ok.ensures.turned
