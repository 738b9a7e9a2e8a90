use Rattle.std.proofs.Common.{length, sym, ap, subst}
use Rattle.gr_strengthen.specs.Families.{clauses_above}
use Rattle.gr_strengthen.specs.LettingGo.{AreLetGo}
use Rattle.gr_strengthen.specs.Strengtheners.{StrengthenerState}
use Rattle.gr_strengthen.proofs.Methods.{still-holding, still-kept}
use Rattle.gr_strengthen.proofs.strengtheners.Strengthener.let_go_half.Goals as goal

pub compact_dead-requires : goal.compact_dead-requires
compact_dead-requires c =
    let s = c.self.inside in
    let h = c.in_ok-gone.ensures.holding s.formula.now s.settled s.notes.reached.forced.vars
    s.notes.reached.decided.vars
    (sym (ap length c.clauses.ensures.clauses)) (c.self.invariant c.if-not-self.false) in
    h.grounded.ground

pub invariant_of-self-2 : goal.invariant_of-self-2
invariant_of-self-2 c w =
    let s = c.self.inside in
    let h = c.in_ok-gone.ensures.holding s.formula.now s.settled s.notes.reached.forced.vars
    s.notes.reached.decided.vars
    (sym (ap length c.clauses.ensures.clauses)) (c.self.invariant c.if-not-self.false) in
    still-holding s.formula.now c.let_go.new.base c.compact_dead.new.base s.settled s.notes.reached.forced.vars
    s.notes.reached.decided.vars c.in_ok-compact_dead.ensures h

pub returns-clause-kept : goal.returns-clause-kept
returns-clause-kept c =
    let s = c.self.inside in
    let f = s.formula.now in
    let gone = c.in_ok-gone.gone in
    let h = c.in_ok-gone.ensures.holding f s.settled s.notes.reached.forced.vars s.notes.reached.decided.vars
    (sym (ap length c.clauses.ensures.clauses)) (c.self.invariant c.if-not-self.false) in
    let went = subst (λ n. AreLetGo (clauses_above n s.base.clauses) (clauses_above n c.let_go.new.base.clauses) gone)
    (ap length c.clauses.ensures.clauses) c.in_ok-gone.ensures.let_go in
    subst (λ (v : StrengthenerState). AreLetGo v.kept
    (clauses_above (length f.clauses) c.compact_dead.new.base.clauses) gone) c.self.view_is
    (still-kept f c.let_go.new.base c.compact_dead.new.base s.base.clauses gone c.in_ok-compact_dead.ensures
    h.formula.ids went)
