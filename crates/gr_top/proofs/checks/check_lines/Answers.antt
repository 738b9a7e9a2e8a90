use Rattle.std.proofs.Common.{◌∙◌, refl, arith}
use Rattle.gr_top.specs.CheckedLogs.{shown}
use Rattle.gr_top.proofs.JudgedLogs.{reads-on, begins, line-on, finish-gives, unread-gives, calm-unread, on-ok, refused-gives, rose-since}
use Rattle.gr_top.proofs.checks.check_lines.Goals as goal

pub lines-init : goal.lines-init
lines-init g c =
    let p = c.args.scanner.now in
    record {
      same = refl;
      follows = begins c.args.formula.now (g.B.Source.left p.source.now) p.held c.in-Ok.checker c.requires
          c.in-Ok.ensures;
      calm = refl;
    }

pub lines-preserved : goal.lines-preserved
lines-preserved g c =
    let i = c.lines.invariant in
    record {
      same = c.next_line.ensures.same ∙ i.same;
      follows = line-on _ _ _ c.line.new.self _ _ _ _ c.in-Ok-Some.numbered i.follows
          (rw c.in-Ok-Some.field-0-is at c.in-Ok-Some.ensures.answers) c.next_line.ensures.goes
          c.in-Ok-line.ensures.ok c.in-Ok-line.ensures.after;
      calm = c.in-Ok-Some.ensures.calm tt ∙ i.calm;
    }

pub lines-preserved-in-Ok-line : goal.lines-preserved-in-Ok-line
lines-preserved-in-Ok-line g c =
    let i = c.lines.invariant in
    record {
      same = c.next_line.ensures.same ∙ i.same;
      follows = line-on _ _ _ c.line.new.self _ _ _ _ c.in-Ok-Some.numbered i.follows
          (rw c.in-Ok-Some.field-0-is at c.in-Ok-Some.ensures.answers) c.next_line.ensures.goes
          c.in-Ok-line.ensures.ok c.in-Ok-line.ensures.after;
      calm = c.in-Ok-Some.ensures.calm tt ∙ i.calm;
    }

pub returns-in-Ok-None-clause-gives : goal.returns-in-Ok-None-clause-gives
returns-in-Ok-None-clause-gives g c =
    let left = g.B.Source.left in
    let faults = g.B.Source.faults in
    let old = c.args.scanner.now.source.now in
    let p = c.lines.scanner in
    let q = c.next_line.new.scanner in
    let i = c.lines.invariant in
    let goes = c.next_line.ensures.goes in
    rw c.finish_status.ensures
    (finish-gives c.finish.result c.args.formula.now c.lines.checker c.lines.last c.next_line.new.ended p.held q.held
    (left p.source.now) (left q.source.now) (shown (left old) (faults old)) (faults q.source.now) i.follows
    (reads-on (rw c.in-Ok-None.field-0-is at c.in-Ok-None.ensures.answers) goes.keeps i.follows.limit
    i.follows.within goes.takes) c.finish.ensures)

pub returns-in-Err-clause-gives : goal.returns-in-Err-clause-gives
returns-in-Err-clause-gives g c =
    let left = g.B.Source.left in
    let faults = g.B.Source.faults in
    let old = c.args.scanner.now.source.now in
    let p = c.lines.scanner in
    let q = c.next_line.new.scanner in
    let i = c.lines.invariant in
    let goes = c.next_line.ensures.goes in
    rw c.unread_status.ensures
    (unread-gives c.in-Err.failed c.args.formula.now c.lines.checker c.lines.last c.next_line.new.ended p.held q.held
    (left p.source.now) (left q.source.now) (shown (left old) (faults old)) (faults q.source.now) i.follows
    (reads-on c.in-Err.ensures.answers goes.keeps i.follows.limit i.follows.within goes.takes)
    (λ fault. rose-since (faults old) (faults p.source.now) (faults q.source.now) (omega (arith, i.calm))
    (c.in-Err.ensures.fault fault)))

pub returns-in-Err-line-clause-gives : goal.returns-in-Err-line-clause-gives
returns-in-Err-line-clause-gives g c =
    let left = g.B.Source.left in
    let faults = g.B.Source.faults in
    let old = c.args.scanner.now.source.now in
    let p = c.lines.scanner in
    let q = c.next_line.new.scanner in
    let i = c.lines.invariant in
    let goes = c.next_line.ensures.goes in
    rw c.refused_status.ensures
    (refused-gives c.in-Err-line.why c.args.formula.now c.lines.checker c.lines.last c.next_line.new.ended p.held
    q.held (left p.source.now) (left q.source.now) c.in-Ok-Some.numbered (shown (left old) (faults old))
    (faults q.source.now) i.follows
    (reads-on (rw c.in-Ok-Some.field-0-is at c.in-Ok-Some.ensures.answers) goes.keeps i.follows.limit
    i.follows.within goes.takes) c.in-Err-line.ensures.refused)

pub returns-in-Ok-None-clause-calm : goal.returns-in-Ok-None-clause-calm
returns-in-Ok-None-clause-calm g c = c.in-Ok-None.ensures.calm tt ∙ c.lines.invariant.calm

pub returns-in-Err-clause-calm : goal.returns-in-Err-clause-calm
returns-in-Err-clause-calm g c =
    calm-unread c.in-Err.failed c.unread_status.result _ _ _ c.unread_status.ensures c.in-Err.ensures.calm
    c.lines.invariant.calm

pub returns-in-Err-line-clause-calm : goal.returns-in-Err-line-clause-calm
returns-in-Err-line-clause-calm g c =
    on-ok c.refused_status.result (c.in-Ok-Some.ensures.calm tt ∙ c.lines.invariant.calm)
