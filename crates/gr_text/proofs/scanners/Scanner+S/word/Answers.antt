use Rattle.std.proofs.Common.{◌<◌, ◌∙◌, length, refl, arith}
use Rattle.gr_text.specs.Places.{between}
use Rattle.gr_text.proofs.Marks.{word-stops}
use Rattle.gr_text.proofs.Leads.{leads-first, leads-on, token-some, token-stays, word-onward}
use Rattle.gr_text.proofs.Taken.{same-word}
use Rattle.gr_text.proofs.Going.{draws-none, draws-more}
use Rattle.gr_text.proofs.Refills.{asked-err, asked-ok}
use Rattle.gr_text.proofs.scanners.Scanner+S.word.Goals as goal

pub loop-self-init : goal.loop-self-init
loop-self-init g c =
    let p = c.args.self.now.held in
    let l = g.S.Source.left c.args.self.now.source.now in
    rw c.grow_word.ensures (record {
      same = refl;
      leads = leads-first p l c.requires.token c.requires.begins;
      some = token-some p c.requires.begins;
      last = refl;
      blank = word-stops p.ahead _ refl;
      draws = draws-none _ _ (same-word p);
      onward = word-onward p c.requires.begins;
    })

pub loop-self-preserved : goal.loop-self-preserved
loop-self-preserved g c =
    let p = c.args.self.now.held in
    let q = c.loop-self.self.held in
    let i = c.loop-self.invariant in
    let more = c.in-Ok.ensures.ok in
    let kept : 0 < length c.refill.new.self.held.token = rw more.filled.place i.some in
    rw c.grow_word-in-loop-self.ensures (record {
      same = c.refill.ensures.same ∙ i.same;
      leads = leads-on (between p) _ p q _ _ _ _ i.leads more.none more.open_ more.room more.filled;
      some = token-stays c.refill.new.self.held kept;
      last = refl;
      blank = word-stops c.refill.new.self.held.ahead _ refl;
      draws =
          draws-more _ _ _ c.refill.new.self.held _ _ _ _ i.draws (same-word c.refill.new.self.held) more.none
          more.filled more.counts more.calm;
      onward = rw more.filled.place (omega (arith, i.onward));
    })

pub returns-then-is_ended-clause-asked : goal.returns-then-is_ended-clause-asked
returns-then-is_ended-clause-asked g c =
    asked-ok _ _ _ _ _ c.loop-self.invariant.leads c.loop-self.invariant.draws c.is_ended.ensures.within

pub returns-in-Err-clause-asked : goal.returns-in-Err-clause-asked
returns-in-Err-clause-asked g c =
    let i = c.loop-self.invariant in
    asked-err _ _ _ _ _ _ i.leads i.draws c.is_ended.ensures.within i.last c.in-Err.ensures.err

pub returns-clause-asked : goal.returns-clause-asked
returns-clause-asked g c =
    asked-ok _ _ _ _ _ c.loop-self.invariant.leads c.loop-self.invariant.draws c.is_empty.ensures.within
