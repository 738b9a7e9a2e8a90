use Rattle.std.proofs.Common.{◌≡◌, ◌<◌, length, None, sym, ap, ◌∙◌, subst}
use Rattle.std.specs.FinMap as finite
use Rattle.std.specs.FinSet as set
use Rattle.gr_logic.specs.Formulas.{VarsUpTo}
use Rattle.gr_strengthen.specs.Strengtheners.{StrengthenerState}
use Rattle.gr_strengthen.proofs.Cited.{unused-id}
use Rattle.gr_strengthen.proofs.Methods.{keep-holding, keep-kept}
use Rattle.gr_strengthen.proofs.strengtheners.Strengthener.keep.Goals as goal

pub enter-requires-clause-ground : goal.enter-requires-clause-ground
enter-requires-clause-ground c = (c.self.invariant c.if-not-self.false).grounded.ground

pub enter-requires-clause-known : goal.enter-requires-clause-known
enter-requires-clause-known c =
    subst (λ n. VarsUpTo n c.args.clause.now) (sym ((c.self.invariant c.if-not-self.false).grounded.vars
    ∙ ap (λ (v : StrengthenerState). v.formula.vars) c.self.view_is)) c.requires.known

pub enter-requires-clause-unused : goal.enter-requires-clause-unused
enter-requires-clause-unused c =
    let s = c.self.inside in
    unused-id s.formula.now s.base.clauses c.args.id (c.self.invariant c.if-not-self.false).formula.ids
    (subst (λ (v : StrengthenerState). length v.formula.clauses < c.args.id) (sym c.self.view_is) c.requires.above)
    (subst (λ (v : StrengthenerState). finite.get v.kept c.args.id ≡ None) (sym c.self.view_is) c.requires.unused)

pub invariant_of-self-2 : goal.invariant_of-self-2
invariant_of-self-2 c w =
    let s = c.self.inside in
    let h = c.self.invariant c.if-not-self.false in
    let high : length s.formula.now.clauses < c.args.id =
    subst (λ (v : StrengthenerState). length v.formula.clauses < c.args.id) (sym c.self.view_is) c.requires.above in
    let lacks = unused-id s.formula.now s.base.clauses c.args.id h.formula.ids high
    (subst (λ (v : StrengthenerState). finite.get v.kept c.args.id ≡ None) (sym c.self.view_is) c.requires.unused) in
    keep-holding s.formula.now s.base c.enter.new.base s.settled s.notes.reached.forced.vars
    s.notes.reached.decided.vars c.args.id c.args.clause.now h c.in_ok-enter.ensures high lacks

pub returns : goal.returns
returns c =
    let s = c.self.inside in
    let h = c.self.invariant c.if-not-self.false in
    let high : length s.formula.now.clauses < c.args.id =
    subst (λ (v : StrengthenerState). length v.formula.clauses < c.args.id) (sym c.self.view_is) c.requires.above in
    let lacks = unused-id s.formula.now s.base.clauses c.args.id h.formula.ids high
    (subst (λ (v : StrengthenerState). finite.get v.kept c.args.id ≡ None) (sym c.self.view_is) c.requires.unused) in
    ap (λ k. record { formula = s.formula.now; kept = k })
    (keep-kept s.formula.now s.base c.enter.new.base c.args.id c.args.clause.now
    h.formula.ids c.in_ok-enter.ensures high
    lacks)
    ∙ ap (λ (v : StrengthenerState). record v {
      kept = finite.insert v.kept c.args.id (set.from_list c.args.clause.now);
    }) c.self.view_is
