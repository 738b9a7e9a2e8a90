use Rattle.std.proofs.Common.{◌∙◌, arith, refl}
use Rattle.std.proofs.lemmas.List.{drop_all}
use Rattle.gr_dimacs.specs.Canonical.{clause_text}
use Rattle.gr_dimacs.proofs.PrintedSteps.{item-behind, output_at, printed-all, printed-fails, printed-next, printed-none}
use Rattle.gr_dimacs.proofs.writers.print_clauses.Goals as goal

pub loop-clause-init : goal.loop-clause-init
loop-clause-init g c =
    let here = output_at g.K.Sink.written g.K.Sink.faults in
    let p = here c.args.printer.now.pending c.args.printer.now.sink.now in
    record { same = refl; printed = printed-none clause_text c.args.clauses.now p }

pub loop-clause-preserved : goal.loop-clause-preserved
loop-clause-preserved g c =
    let here = output_at g.K.Sink.written g.K.Sink.faults in
    let p = here c.args.printer.now.pending c.args.printer.now.sink.now in
    let q = here c.loop-clause.printer.pending c.loop-clause.printer.sink.now in
    let n = here c.print_clause.new.printer.pending c.print_clause.new.printer.sink.now in
    let x = c.clause-item.result in
    let i = c.loop-clause.clause-index in
    let next = item-behind c.args.clauses.now i x c.loop-clause-test.true c.clause-item.is in
    record {
      same = c.print_clause.ensures.same ∙ c.loop-clause.invariant.same;
      printed = printed-next clause_text x c.args.clauses.now i p q n
          c.loop-clause.invariant.printed next (rw c.lits.ensures at c.in-Ok.ensures.printed)
          c.print_clause.ensures.grows;
    }

pub returns-in-Err-clause-printed : goal.returns-in-Err-clause-printed
returns-in-Err-clause-printed g c =
    let here = output_at g.K.Sink.written g.K.Sink.faults in
    let p = here c.args.printer.now.pending c.args.printer.now.sink.now in
    let q = here c.loop-clause.printer.pending c.loop-clause.printer.sink.now in
    let n = here c.print_clause.new.printer.pending c.print_clause.new.printer.sink.now in
    let x = c.clause-item.result in
    let i = c.loop-clause.clause-index in
    let next = item-behind c.args.clauses.now i x c.loop-clause-test.true c.clause-item.is in
    printed-fails c.in-Err.failed clause_text x c.args.clauses.now i p q n
    c.loop-clause.invariant.printed next (rw c.lits.ensures at c.in-Err.ensures.printed)

pub returns-clause-printed : goal.returns-clause-printed
returns-clause-printed g c =
    let here = output_at g.K.Sink.written g.K.Sink.faults in
    let p = here c.args.printer.now.pending c.args.printer.now.sink.now in
    let q = here c.loop-clause.printer.pending c.loop-clause.printer.sink.now in
    printed-all clause_text c.args.clauses.now c.loop-clause.clause-index p q
    c.loop-clause.invariant.printed
    (drop_all c.loop-clause.clause-index c.args.clauses.now (omega arith))
