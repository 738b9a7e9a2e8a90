use Rattle.std.proofs.Common.{◌∙◌, refl, arith}
use Rattle.gr_text.specs.Places.{between}
use Rattle.gr_text.proofs.Marks.{spaces-stop}
use Rattle.gr_text.proofs.Leads.{leads-spaces, leads-more}
use Rattle.gr_text.proofs.Ends.{past-end, still-ended}
use Rattle.gr_text.proofs.Taken.{same-spaces}
use Rattle.gr_text.proofs.Going.{draws-none, draws-more}
use Rattle.gr_text.proofs.Refills.{asked-err, asked-ok}
use Rattle.gr_text.proofs.scanners.Scanner+S.reach.Goals as goal

pub loop-self-init : goal.loop-self-init
loop-self-init g c =
    let p = c.args.self.now.held in
    let l = g.S.Source.left c.args.self.now.source.now in
    rw c.skip_spaces.ensures (record {
      same = refl;
      leads = leads-spaces p l;
      token = refl;
      past = spaces-stop p.ahead _ refl;
      draws = draws-none _ _ (same-spaces p);
      onward = omega arith;
      again = λ past. (past-end p past, refl);
    })

pub loop-self-preserved : goal.loop-self-preserved
loop-self-preserved g c =
    let p = c.args.self.now.held in
    let q = c.loop-self.self.held in
    let i = c.loop-self.invariant in
    let more = c.in-Ok.ensures.ok in
    rw c.skip_spaces-in-loop-self.ensures (record {
      same = c.refill.ensures.same ∙ i.same;
      leads = leads-more (between p) _ p q _ _ _ _ i.leads more.none more.open_ more.room more.filled;
      token = refl;
      past = spaces-stop c.refill.new.self.held.ahead _ refl;
      draws =
          draws-more _ _ _ c.refill.new.self.held _ _ _ _ i.draws (same-spaces c.refill.new.self.held) more.none
          more.filled more.counts more.calm;
      onward = rw more.filled.place (omega (arith, i.onward));
      again = λ past. absurd (still-ended p q past (i.again past).0 more.open_);
    })

pub returns-then-is_ended-clause-asked : goal.returns-then-is_ended-clause-asked
returns-then-is_ended-clause-asked g c =
    asked-ok _ _ _ _ _ c.loop-self.invariant.leads c.loop-self.invariant.draws c.is_ended.ensures.within

pub returns-in-Err-clause-asked : goal.returns-in-Err-clause-asked
returns-in-Err-clause-asked g c =
    let i = c.loop-self.invariant in
    asked-err _ _ _ _ _ _ i.leads i.draws c.is_ended.ensures.within refl c.in-Err.ensures.err

pub returns-clause-asked : goal.returns-clause-asked
returns-clause-asked g c =
    asked-ok _ _ _ _ _ c.loop-self.invariant.leads c.loop-self.invariant.draws c.is_empty.ensures.within
