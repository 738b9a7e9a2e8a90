use Rattle.std.proofs.Common.{refl}
use Rattle.gr_top.specs.Checking.{sources}
use Rattle.gr_top.proofs.JudgedLogs.{both-calm}
use Rattle.gr_top.proofs.Checked.{log-judges, short-judges, unread-judges}
use Rattle.gr_top.proofs.checks.judge.Goals as goal

pub returns-in-Ok-clause-judges : goal.returns-in-Ok-clause-judges
returns-in-Ok-clause-judges g c =
    log-judges c.check_log.result c.in-Ok.formula _ _ c.in-Ok.ensures.answer c.check_log.ensures.gives

pub returns-in-Err-Grammar-clause-judges : goal.returns-in-Err-Grammar-clause-judges
returns-in-Err-Grammar-clause-judges g c =
    let reads = rw c.in-Err-Grammar.field-0-is at c.in-Err-Grammar.ensures.answer in
    rw c.in-Err-Grammar.fault-is (reads, refl)

pub returns-in-Err-ReadFault-clause-judges : goal.returns-in-Err-ReadFault-clause-judges
returns-in-Err-ReadFault-clause-judges g c =
    let left = g.A.Source.left in
    let old = sources (left c.args.cnf.now) (g.A.Source.faults c.args.cnf.now)
    (g.B.Source.left c.args.log.now) (g.B.Source.faults c.args.log.now) in
    let new = sources (left c.read_formula.new.cnf) (g.A.Source.faults c.read_formula.new.cnf)
    (g.B.Source.left c.args.log.now) (g.B.Source.faults c.args.log.now) in
    let reads = rw c.in-Err-ReadFault.field-0-is at c.in-Err-ReadFault.ensures.answer in
    unread-judges old new (c.in-Err-ReadFault.ensures.fault c.in-Err-ReadFault.field-0-is) reads refl

pub returns-in-Err-OutOfMemory-clause-judges : goal.returns-in-Err-OutOfMemory-clause-judges
returns-in-Err-OutOfMemory-clause-judges g c =
    let left = g.A.Source.left in
    let old = sources (left c.args.cnf.now) (g.A.Source.faults c.args.cnf.now)
    (g.B.Source.left c.args.log.now) (g.B.Source.faults c.args.log.now) in
    let new = sources (left c.read_formula.new.cnf) (g.A.Source.faults c.read_formula.new.cnf)
    (g.B.Source.left c.args.log.now) (g.B.Source.faults c.args.log.now) in
    short-judges old new (rw c.in-Err-OutOfMemory.field-0-is at c.in-Err-OutOfMemory.ensures.answer) refl

pub returns-in-Ok-clause-calm : goal.returns-in-Ok-clause-calm
returns-in-Ok-clause-calm g c = both-calm _ _ c.check_log.result (c.in-Ok.ensures.calm tt) c.check_log.ensures.calm

pub returns-in-Err-Grammar-clause-calm : goal.returns-in-Err-Grammar-clause-calm
returns-in-Err-Grammar-clause-calm g c = (c.in-Err-Grammar.ensures.calm (rw c.in-Err-Grammar.field-0-is tt), refl)
