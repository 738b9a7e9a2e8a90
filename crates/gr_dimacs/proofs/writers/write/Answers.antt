use Rattle.std.proofs.Common.{ap, rules, sym}
use Rattle.gr_dimacs.specs.Canonical.{canonical_text}
use Rattle.gr_dimacs.proofs.PrintedSteps.{failed-part, flushed-all, flushed-part, gains-at, output_at, part-at}
use Rattle.gr_dimacs.proofs.writers.write.Goals as goal

pub returns-in-Err-clause-err : goal.returns-in-Err-clause-err
returns-in-Err-clause-err g c =
    let written = g.K.Sink.written in
    let here = output_at written g.K.Sink.faults in
    let text = canonical_text c.args.formula.now in
    let p = here c.new-printer.result.pending c.new-printer.result.sink.now in
    let q = here c.print_formula.new.printer.pending c.print_formula.new.printer.sink.now in
    part-at text p.written q.written _ _
    (failed-part c.in-Err.failed text p q c.new-printer.ensures.empty c.in-Err.ensures.printed)
    (ap written (sym c.new-printer.ensures.sink)) (search rules)

pub returns-in-Ok-flush-clause-ok : goal.returns-in-Ok-flush-clause-ok
returns-in-Ok-flush-clause-ok g c =
    let written = g.K.Sink.written in
    let here = output_at written g.K.Sink.faults in
    let text = canonical_text c.args.formula.now in
    let p = here c.new-printer.result.pending c.new-printer.result.sink.now in
    let q = here c.print_formula.new.printer.pending c.print_formula.new.printer.sink.now in
    let last = written c.flush.new.self.sink.now in
    gains-at text p.written last _ _
    (flushed-all text p q last c.new-printer.ensures.empty c.in-Ok.ensures.printed
    c.in-Ok-flush.ensures.ok)
    (ap written (sym c.new-printer.ensures.sink)) (search rules)

pub returns-in-Err-flush-clause-err : goal.returns-in-Err-flush-clause-err
returns-in-Err-flush-clause-err g c =
    let written = g.K.Sink.written in
    let here = output_at written g.K.Sink.faults in
    let text = canonical_text c.args.formula.now in
    let p = here c.new-printer.result.pending c.new-printer.result.sink.now in
    let q = here c.print_formula.new.printer.pending c.print_formula.new.printer.sink.now in
    let last = written c.flush.new.self.sink.now in
    part-at text p.written last _ _
    (flushed-part text p q last c.new-printer.ensures.empty c.in-Ok.ensures.printed
    c.in-Err-flush.ensures.err)
    (ap written (sym c.new-printer.ensures.sink)) (search rules)
