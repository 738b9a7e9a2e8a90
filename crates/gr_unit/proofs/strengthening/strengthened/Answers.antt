use Rattle.std.proofs.Common.{◌∷◌, [], ◌++◌, refl, subst, inl, inr}
use Rattle.gr_logic.specs.Closure.{listed}
use Rattle.gr_unit.specs.declared.strengthening.Verdict.TheVariants.{Enough, LeftOut, Last, Kept}
use Rattle.gr_unit.specs.Strengthening.{IsVerdictOn}
use Rattle.gr_unit.proofs.WalkSteps.{next-literal}
use Rattle.gr_unit.proofs.strengthening.strengthened.Goals as goal

pub returns-in-Enough : goal.returns-in-Enough
returns-in-Enough c =
    let x = c.lit-item.result in
    let verdict = subst (λ kept. IsVerdictOn c.args.clauses.now kept x Enough) c.lits.ensures
    (subst (IsVerdictOn c.args.clauses.now c.lits.result.now x) c.in-Enough.is c.in_ok-judge.ensures) in
    c.loop-lit.invariant c.loop-lit.kept
    (next-literal
    (listed c.args.clauses.now) c.loop-lit.kept c.args.lits.now c.loop-lit.lit-index x c.loop-lit.kept
    c.loop-lit-test.true c.lit-item.is
    (inl (verdict, refl)))

pub loop-lit-preserved-in-LeftOut : goal.loop-lit-preserved-in-LeftOut
loop-lit-preserved-in-LeftOut c outcome walk =
    let x = c.lit-item.result in
    let verdict = subst (λ kept. IsVerdictOn c.args.clauses.now kept x LeftOut) c.lits.ensures
    (subst (IsVerdictOn c.args.clauses.now c.lits.result.now x) c.in-LeftOut.is c.in_ok-judge.ensures) in
    c.loop-lit.invariant outcome
    (next-literal
    (listed c.args.clauses.now) c.loop-lit.kept c.args.lits.now c.loop-lit.lit-index x outcome
    c.loop-lit-test.true c.lit-item.is
    (inr (verdict.0, inl (verdict.1, walk))))

pub returns-in-Last : goal.returns-in-Last
returns-in-Last c =
    let x = c.lit-item.result in
    let verdict = subst (λ kept. IsVerdictOn c.args.clauses.now kept x Last) c.lits.ensures
    (subst (IsVerdictOn c.args.clauses.now c.lits.result.now x) c.in-Last.is c.in_ok-judge.ensures) in
    rw c.in_ok-push-in-Last.ensures.ok
    (c.loop-lit.invariant (c.loop-lit.kept ++ x ∷ [])
    (next-literal (listed c.args.clauses.now) c.loop-lit.kept c.args.lits.now c.loop-lit.lit-index x
    (c.loop-lit.kept ++ x ∷ []) c.loop-lit-test.true c.lit-item.is
    (inr (verdict.0, inr (inl (verdict.1, refl))))))

pub loop-lit-preserved : goal.loop-lit-preserved
loop-lit-preserved c outcome walk =
    let x = c.lit-item.result in
    let verdict = subst (λ kept. IsVerdictOn c.args.clauses.now kept x Kept) c.lits.ensures
    (subst (IsVerdictOn c.args.clauses.now c.lits.result.now x) c.in-Kept.is c.in_ok-judge.ensures) in
    c.loop-lit.invariant outcome
    (next-literal
    (listed c.args.clauses.now) c.loop-lit.kept c.args.lits.now c.loop-lit.lit-index x outcome
    c.loop-lit-test.true c.lit-item.is
    (inr (verdict.0, inr (inr (verdict.1, verdict.2, rw c.in_ok-push-in-Kept.ensures.ok at walk)))))
