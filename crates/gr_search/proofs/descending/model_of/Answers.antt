use Rattle.std.proofs.Common.{◌≡◌, ◌<◌, ◌-◌, ℕ, Bool, List, true, length, set, length-set, sym, ap, ◌∙◌, subst, arith}
use Rattle.gr_logic.specs.Truth.{literal_true}
use Rattle.gr_search.proofs.TrailLiterals.{stands, is-known}
use Rattle.gr_search.proofs.TrueLiterals.{AreTrueUpTo, true-more, all-true, lits-length}
use Rattle.gr_search.proofs.descending.model_of.Goals as goal

pub set-requires-clause-high : goal.set-requires-clause-high
set-requires-clause-high c =
    let t = c.args.trail.now in
    let i = c.loop-lit.lit-index in
    let l = c.lit-item.result in
    let at = stands t.assigned c.lits-lit-items.result.now i l c.lits-lit-items.ensures.lits c.loop-lit-test.true
    c.lit-item.is in
    let known = is-known t i l c.lits-lit-items.ensures.trail at in
    omega (arith, known, c.var.ensures.number, c.loop-lit.invariant.sized, c.requires.vars)

pub loop-lit-preserved : goal.loop-lit-preserved
loop-lit-preserved c =
    let t = c.args.trail.now in
    let i = c.loop-lit.lit-index in
    let l = c.lit-item.result in
    let model = c.loop-lit.model in
    let inv = c.loop-lit.invariant in
    let at = stands t.assigned c.lits-lit-items.result.now i l c.lits-lit-items.ensures.lits c.loop-lit-test.true
    c.lit-item.is in
    let known = is-known t i l c.lits-lit-items.ensures.trail at in
    let low : l.index < length model = omega (arith, known, inv.sized, c.requires.vars) in
    let number : c.var.result - 1 ≡ l.index = omega (arith, c.var.ensures.number) in
    let e : c.set.new.self ≡ set model l.index l.positive =
    c.set.ensures ∙ ap (λ (n : ℕ). set model n c.is_positive.result) number
    ∙ ap (set model l.index) c.is_positive.ensures in
    record {
      sized = ap length e ∙ length-set model l.index l.positive ∙ inv.sized;
      holds = λ k a before here. subst (λ (m : List Bool). literal_true m a.lit ≡ true) (sym e)
          (true-more t model i l c.lits-lit-items.ensures.trail at low inv.holds k a before here);
    }

pub returns-clause-true_ : goal.returns-clause-true_
returns-clause-true_ c =
    let xs = c.args.trail.now.assigned in
    let long = ap length c.lits-lit-items.ensures.lits ∙ lits-length xs in
    all-true xs c.loop-lit.model (subst (λ (n : ℕ). AreTrueUpTo c.loop-lit.model xs n) (omega (arith, long))
    c.loop-lit.invariant.holds)
