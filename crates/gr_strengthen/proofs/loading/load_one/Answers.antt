use Rattle.std.proofs.Common.{◌≡◌, List, Some, sym, ap, ◌∙◌, subst}
use Rattle.std.specs.Prelude.{slice_get}
use Rattle.std.proofs.lemmas.Option.{slice_get-get_or}
use Rattle.std.proofs.lemmas.Result.{on_ok_weaker}
use Rattle.gr_logic.specs.Formulas.{VarsUpTo}
use Rattle.gr_logic.specs.NormalForms.{IsNormal, IsNormalFormOf}
use Rattle.gr_logic.specs.Rup.{members}
use Rattle.gr_logic.specs.Literals.{Literal}
use Rattle.gr_logic.proofs.FirstOccurrences.{normal-forms}
use Rattle.gr_strengthen.proofs.Loaded.{loaded-tautology, loaded-entered, firsts-known, next-unused, clause-at}
use Rattle.gr_strengthen.proofs.loading.load_one.Goals as goal

pub enter-requires-clause-normal : goal.enter-requires-clause-normal
enter-requires-clause-normal c =
    let n = subst (IsNormalFormOf c.index-clauses-index.result) c.in-Clause.is c.in_ok-clause.ensures in
    subst IsNormal (sym n.1) (normal-forms c.index-clauses-index.result n.0).0

pub enter-requires-clause-known : goal.enter-requires-clause-known
enter-requires-clause-known c =
    let f = c.args.formula.now in
    let ls : List Literal = c.index-clauses-index.result in
    let n = subst (IsNormalFormOf ls) c.in-Clause.is c.in_ok-clause.ensures in
    let at = clause-at f.clauses c.clauses.result.now c.args.index ls c.clauses.ensures.clauses
    c.index-clauses-index.is in
    subst (VarsUpTo c.args.base.now.trail.vars) (sym n.1) (firsts-known c.args.base.now.trail.vars ls
    (subst (λ v. VarsUpTo v ls) (sym c.requires.loaded.grounded.vars)
    (subst (VarsUpTo f.vars) (sym at) (c.clauses.ensures.within c.args.index ls c.requires.within))))

pub enter-requires-clause-unused : goal.enter-requires-clause-unused
enter-requires-clause-unused c = next-unused c.args.formula.now c.args.base.now c.args.index c.requires.loaded

pub returns-in-Clause : goal.returns-in-Clause
returns-in-Clause c =
    let f = c.args.formula.now in
    let ls : List Literal = c.index-clauses-index.result in
    let n = subst (IsNormalFormOf ls) c.in-Clause.is c.in_ok-clause.ensures in
    let at = clause-at f.clauses c.clauses.result.now c.args.index ls c.clauses.ensures.clauses
    c.index-clauses-index.is in
    let there : slice_get f.clauses c.args.index ≡ Some ls =
    slice_get-get_or f.clauses c.args.index ls c.requires.within ∙ ap Some (sym at) in
    on_ok_weaker c.enter.result
    (λ entered. loaded-entered f c.args.base.now c.enter.new.base c.args.index ls c.in-Clause.clause there
    (ap members n.1 ∙ (normal-forms ls n.0).1) entered c.requires.loaded) c.enter.ensures

pub returns-in-Tautology : goal.returns-in-Tautology
returns-in-Tautology c =
    let f = c.args.formula.now in
    let ls : List Literal = c.index-clauses-index.result in
    let at = clause-at f.clauses c.clauses.result.now c.args.index ls c.clauses.ensures.clauses
    c.index-clauses-index.is in
    loaded-tautology f c.args.base.now c.args.index ls
    (slice_get-get_or f.clauses c.args.index ls c.requires.within ∙ ap Some (sym at))
    (subst (IsNormalFormOf ls) c.in-Tautology.is c.in_ok-clause.ensures) c.requires.loaded
