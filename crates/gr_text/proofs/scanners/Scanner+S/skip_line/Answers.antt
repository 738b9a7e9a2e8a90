use Rattle.std.proofs.Common.{◌∙◌, refl, sym, arith}
use Rattle.gr_text.specs.Stands.{stand}
use Rattle.gr_text.proofs.Skips.{passes-rest, passes-more, rest-stops, skips-here, not-nothing, passes-kept}
use Rattle.gr_text.proofs.Taken.{same-rest}
use Rattle.gr_text.proofs.Going.{draws-none, draws-more, goes-drawn}
use Rattle.gr_text.proofs.Refills.{calm-refused, fault-refused, goes-refused, skip-refused}
use Rattle.gr_text.proofs.scanners.Scanner+S.skip_line.Goals as goal

pub loop-self-init : goal.loop-self-init
loop-self-init g c =
    let p = c.args.self.now.held in
    let l = g.S.Source.left c.args.self.now.source.now in
    rw c.skip_rest.ensures (record {
      same = refl;
      passes = passes-rest p l;
      at_end = rest-stops p.ahead _ refl;
      draws = draws-none _ _ (same-rest p);
      onward = omega arith;
    })

pub loop-self-preserved : goal.loop-self-preserved
loop-self-preserved g c =
    let q = c.loop-self.self.held in
    let i = c.loop-self.invariant in
    let more = c.in-Ok.ensures.ok in
    rw c.skip_rest-in-loop-self.ensures (record {
      same = c.refill.ensures.same ∙ i.same;
      passes = passes-more _ _ q _ _ _ _ i.passes more.none more.open_ more.room more.filled;
      at_end = rest-stops c.refill.new.self.held.ahead _ refl;
      draws =
          draws-more _ _ _ c.refill.new.self.held _ _ _ _ i.draws (same-rest c.refill.new.self.held) more.none
          more.filled more.counts more.calm;
      onward = rw more.filled.place (omega (arith, i.onward));
    })

pub returns-then-is_ended-clause-ok : goal.returns-then-is_ended-clause-ok
returns-then-is_ended-clause-ok g c =
    let left = g.S.Source.left in
    let i = c.loop-self.invariant in
    skips-here c.args.self.now.held c.loop-self.self.held (left c.args.self.now.source.now)
    (left c.loop-self.self.source.now) i.passes i.at_end
    (λ _. sym c.is_ended.ensures.ended ∙ c.if-is_ended.true)

pub returns-clause-ok : goal.returns-clause-ok
returns-clause-ok g c =
    let left = g.S.Source.left in
    let i = c.loop-self.invariant in
    let q = c.loop-self.self.held in
    skips-here c.args.self.now.held q (left c.args.self.now.source.now)
    (left c.loop-self.self.source.now) i.passes i.at_end
    (not-nothing q.ahead (c.is_empty.ensures.some c.loop-self-test.false) q.ended)

pub returns-then-is_ended-clause-goes : goal.returns-then-is_ended-clause-goes
returns-then-is_ended-clause-goes g c =
    let i = c.loop-self.invariant in
    goes-drawn _ _ i.draws (passes-kept _ _ _ _ i.passes c.is_ended.ensures.within)

pub returns-in-Err-clause-goes : goal.returns-in-Err-clause-goes
returns-in-Err-clause-goes g c =
    let i = c.loop-self.invariant in
    goes-refused _ _ _ _ (goes-drawn _ _ i.draws (passes-kept _ _ _ _ i.passes c.is_ended.ensures.within))
    c.in-Err.ensures.err

pub returns-in-Err-clause-err : goal.returns-in-Err-clause-err
returns-in-Err-clause-err g c =
    let here = stand g.S.Source.left g.S.Source.taken g.S.Source.faults in
    let p = here c.args.self.now.held c.args.self.now.source.now in
    skip-refused _ p _ _ c.loop-self.invariant.passes c.in-Err.ensures.err

pub returns-in-Err-clause-fault : goal.returns-in-Err-clause-fault
returns-in-Err-clause-fault g c = fault-refused _ _ _ _ c.loop-self.invariant.draws c.in-Err.ensures.err

pub returns-in-Err-clause-calm : goal.returns-in-Err-clause-calm
returns-in-Err-clause-calm g c = calm-refused _ _ _ _ c.loop-self.invariant.draws c.in-Err.ensures.err

pub returns-clause-goes : goal.returns-clause-goes
returns-clause-goes g c =
    let i = c.loop-self.invariant in
    goes-drawn _ _ i.draws (passes-kept _ _ _ _ i.passes c.is_empty.ensures.within)
