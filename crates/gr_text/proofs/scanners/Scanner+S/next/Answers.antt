use Rattle.std.proofs.Common.{refl}
use Rattle.gr_text.specs.Places.{between}
use Rattle.gr_text.specs.Scans.{Spans}
use Rattle.gr_text.proofs.Leads.{line-scanned, word-scanned, end-scanned, spans-after, fails-after}
use Rattle.gr_text.proofs.Taken.{same-line}
use Rattle.gr_text.proofs.Going.{goes-at, goes-then}
use Rattle.gr_text.proofs.scanners.Scanner+S.next.Goals as goal

pub returns-in-Ok-false-clause-ok : goal.returns-in-Ok-false-clause-ok
returns-in-Ok-false-clause-ok g c =
    let p = c.args.self.now.held in
    let left = g.S.Source.left in
    rw c.line-line.ensures
    (end-scanned (between p) p c.reach.new.self.held (left c.args.self.now.source.now)
    (left c.reach.new.self.source.now) c.in-Ok-false.field-0 c.in-Ok-false.field-0-test
    c.in-Ok-false.ensures.ok)

pub returns-then-is_at_line_end-clause-ok : goal.returns-then-is_at_line_end-clause-ok
returns-then-is_at_line_end-clause-ok g c =
    let p = c.args.self.now.held in
    let left = g.S.Source.left in
    rw (c.end_line-line.ensures.place, c.end_line-line.ensures.line)
    (line-scanned (between p) p c.reach.new.self.held (left c.args.self.now.source.now)
    (left c.reach.new.self.source.now) c.in-Ok-true.ensures.ok.leads
    (c.is_at_line_end.ensures.yes c.if-is_at_line_end.true))

pub returns-in-Err-word-clause-err : goal.returns-in-Err-word-clause-err
returns-in-Err-word-clause-err g c =
    let p = c.args.self.now.held in
    let left = g.S.Source.left in
    let q = c.reach.new.self in
    fails-after (between p) (between q.held) c.in-Err-word.failed p q.held c.word.new.self.held
    (left c.args.self.now.source.now) (left q.source.now) (left c.word.new.self.source.now)
    c.in-Ok-true.ensures.ok.leads c.word.ensures.asked.goes.keeps.grows c.in-Err-word.ensures.asked.err

pub returns-clause-ok : goal.returns-clause-ok
returns-clause-ok g c =
    let p = c.args.self.now.held in
    let left = g.S.Source.left in
    let q = c.reach.new.self in
    let o = c.word.new.self in
    let spans : Spans (between p) p (left c.args.self.now.source.now) o.held (left o.source.now) =
    spans-after (between p) p q.held o.held (left c.args.self.now.source.now)
    (left q.source.now) (left o.source.now) c.in-Ok-true.ensures.ok.onward
    c.in-Ok-true.ensures.ok.leads c.in-Ok.ensures.ok in
    rw (c.last-line.ensures, c.end_token-first.ensures.place, c.end_token-first.ensures.first)
    (word-scanned (between p) p o.held (left c.args.self.now.source.now) (left o.source.now) spans)

pub returns-then-is_at_line_end-clause-goes : goal.returns-then-is_at_line_end-clause-goes
returns-then-is_at_line_end-clause-goes g c =
    let q = c.reach.new.self.held in
    rw c.end_line-line.ensures.place
    (goes-at _ _ _ c.reach.ensures.asked.goes
    (same-line q (c.in-Ok-true.ensures.ok.some c.in-Ok-true.field-0-test)) refl refl)

pub returns-in-Err-word-clause-goes : goal.returns-in-Err-word-clause-goes
returns-in-Err-word-clause-goes g c = goes-then _ _ _ c.reach.ensures.asked.goes c.word.ensures.asked.goes

pub returns-clause-goes : goal.returns-clause-goes
returns-clause-goes g c =
    rw c.end_token-first.ensures.place
    (goes-at _ _ _ (goes-then _ _ _ c.reach.ensures.asked.goes c.word.ensures.asked.goes) refl refl refl)
