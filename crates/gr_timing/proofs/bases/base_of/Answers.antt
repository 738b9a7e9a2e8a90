use Rattle.std.proofs.Common.{◌≡◌, ◌+◌, ◌<◌, ◌≤◌, [], All, length, slice_index_or, refl, sym, ap, subst}
use Rattle.std.proofs.lemmas.List.{take_all}
use Rattle.gr_timing.specs.Rounds.{IsTaken}
use Rattle.gr_timing.proofs.Taken.{HasTaken, taken-none, taken-front}
use Rattle.gr_timing.proofs.bases.base_of.Goals as goal

-- the new base has none
pub loop-clause-init : goal.loop-clause-init
loop-clause-init c = (
  refl,
  subst (λ vars. HasTaken c.in_ok-base.base vars 0 []) c.vars.ensures.vars
      (subst (λ b. HasTaken b c.vars.result 0 []) (sym c.in_ok-base.ensures) (taken-none _)),
)

-- one more clause is taken
pub loop-clause-preserved : goal.loop-clause-preserved
loop-clause-preserved c =
    let all = c.clauses-clause-items.ensures.clauses in
    let i = c.loop-clause.clause-index in
    let now = c.clause-item.result in (
      ap (λ n. n + 1) c.loop-clause.invariant.0,
      taken-front c.loop-clause.base c.add.new.base c.args.formula.now.vars i c.loop-clause.id
          c.args.formula.now.clauses now c.loop-clause.invariant
          (subst (λ cs. i < length cs) all c.loop-clause-test.true)
          (subst (λ cs. now ≡ slice_index_or cs i now) all c.clause-item.is) c.in_ok-add.ensures,
    )

-- all clauses are taken
pub returns-clause-taken : goal.returns-clause-taken
returns-clause-taken c =
    subst (All (IsTaken c.loop-clause.base.clauses)) (take_all c.loop-clause.clause-index c.args.formula.now.clauses
    (subst (λ cs. length cs ≤ c.loop-clause.clause-index) c.clauses-clause-items.ensures.clauses
    c.loop-clause-test.false)) c.loop-clause.invariant.1.taken
