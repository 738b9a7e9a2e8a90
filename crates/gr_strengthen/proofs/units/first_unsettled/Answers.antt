use Rattle.std.proofs.Common.{◌≡◌, ◌<◌, length, ap, ◌∙◌, arith}
use Rattle.gr_trail.specs.Trails.{TrailState}
use Rattle.gr_strengthen.specs.Holding.{HasUnitReason}
use Rattle.gr_strengthen.proofs.UnitFacts.{lits-long, one-more}
use Rattle.gr_strengthen.proofs.units.first_unsettled.Goals as goal

pub returns-then-not-is_settled-clause-next : goal.returns-then-not-is_settled-clause-next
returns-then-not-is_settled-clause-next c d low = c.is_settled.ensures.no d c.if-not-is_settled.true

pub loop-index-preserved : goal.loop-index-preserved
loop-index-preserved c =
    let b = c.args.base.now in
    let long : length c.lits-len.result.now ≡ length b.trail.assigned =
    lits-long c.trail.result.now c.lits-len.result.now c.lits-len.ensures.lits
    ∙ ap (λ (t : TrailState). length t.assigned) c.trail.ensures.trail in
    let low : c.loop-index.index < length b.trail.assigned = let t = c.loop-index-test.true in omega (arith, t, long) in
    record {
      within = omega (arith, low);
      done = one-more (HasUnitReason b.clauses) b.trail.assigned c.loop-index.index low c.loop-index.invariant.done
          (λ d. c.is_settled.ensures.yes d c.if-not-is_settled.false);
    }
