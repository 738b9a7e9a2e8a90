use Rattle.std.proofs.Common.{◌≡◌, ◌+◌, length, refl, sym, ap, ◌∙◌, subst, arith}
use Rattle.gr_logic.specs.NormalForms.{IsNormalFormOf}
use Rattle.gr_prop.specs.Bases.{BaseState, empty_base}
use Rattle.gr_search.proofs.FormulaClauses.{HoldsFirst, holds-none, holds-tautology, holds-more, next-unused, clause-at, firsts-known, firsts-normal, knows-all}
use Rattle.gr_search.proofs.solving.base_of.Goals as goal
use Rattle.gr_search.proofs.solving.base_of.Goals.{in-Clause+in_ok-add, in_default}

pub loop-clause-init : goal.loop-clause-init
loop-clause-init c = record {
  counted = refl;
  holds = holds-none c.args.formula.now c.in_ok-base.base (c.in_ok-base.ensures ∙ ap empty_base c.vars.ensures.vars);
}

pub add-requires-clause-normal : goal.add-requires-clause-normal
add-requires-clause-normal c =
    let form = subst (IsNormalFormOf c.clause-item.result) c.in-Clause.is c.in_ok-firsts.ensures in
    firsts-normal c.clause-item.result c.in-Clause.firsts form.0 form.1

pub add-requires-clause-known : goal.add-requires-clause-known
add-requires-clause-known c =
    let f = c.args.formula.now in
    let form = subst (IsNormalFormOf c.clause-item.result) c.in-Clause.is c.in_ok-firsts.ensures in
    let at = clause-at f c.clauses-clause-items.result.now c.loop-clause.clause-index c.clause-item.result
    c.clauses-clause-items.ensures.clauses c.loop-clause-test.true c.clause-item.is in
    firsts-known f c.loop-clause.base.trail.vars c.loop-clause.clause-index c.clause-item.result c.in-Clause.firsts at
    c.clauses-clause-items.ensures.within c.loop-clause.invariant.holds.vars form.1

pub add-requires-clause-unused : goal.add-requires-clause-unused
add-requires-clause-unused c =
    next-unused c.args.formula.now c.loop-clause.base c.loop-clause.clause-index (c.loop-clause.id + 1)
    (let same = c.loop-clause.invariant.counted in omega (arith, same)) c.loop-clause.invariant.holds

pub loop-clause-preserved : goal.loop-clause-preserved
loop-clause-preserved c =
    let f = c.args.formula.now in
    let i = c.loop-clause.clause-index in
    let clause = c.clause-item.result in
    let inv = c.loop-clause.invariant in
    let counted = inv.counted in
    let next : c.loop-clause.id + 1 ≡ i + 1 = omega (arith, counted) in
    let at = clause-at f c.clauses-clause-items.result.now i clause c.clauses-clause-items.ensures.clauses
    c.loop-clause-test.true c.clause-item.is in
    record {
      counted = next;
      holds = elim c.match-branch-3.branch [
        | in-Clause+in_ok-add w ↦
            let form = subst (IsNormalFormOf clause) w.in-Clause.is c.in_ok-firsts.ensures in
            subst (λ (b : BaseState). HoldsFirst f b (i + 1)) (sym w.base-is)
            (holds-more f c.loop-clause.base w.add.new.self i (c.loop-clause.id + 1) clause w.in-Clause.firsts
            w.in_ok-add.field-0 at next form.0 form.1 w.in_ok-add.ensures inv.holds)
        | in_default w ↦
            let form = subst (IsNormalFormOf clause) w.in_default.is c.in_ok-firsts.ensures in
            subst (λ (b : BaseState). HoldsFirst f b (i + 1)) (sym w.base-is)
            (holds-tautology f c.loop-clause.base i clause at form inv.holds)
      ];
    }

pub returns-clause-knows : goal.returns-clause-knows
returns-clause-knows c =
    let f = c.args.formula.now in
    let long = ap length c.clauses-clause-items.ensures.clauses in
    knows-all f c.loop-clause.base c.loop-clause.clause-index (omega (arith, long)) c.loop-clause.invariant.holds
