use Rattle.std.proofs.Common.{length}
use Rattle.std.specs.List.{flat_map}
use Rattle.gr_dimacs.specs.Canonical.{clause_text, header_text}
use Rattle.gr_dimacs.proofs.PrintedSteps.{fails-more, output_at, printed-then}
use Rattle.gr_dimacs.proofs.writers.print_formula.Goals as goal

pub returns-in-Err-clause-printed : goal.returns-in-Err-clause-printed
returns-in-Err-clause-printed g c =
    let here = output_at g.K.Sink.written g.K.Sink.faults in
    let p = here c.args.printer.now.pending c.args.printer.now.sink.now in
    let q = here c.print_header.new.printer.pending c.print_header.new.printer.sink.now in
    let f = c.args.formula.now in
    let header = header_text f.vars (length f.clauses) in
    let clauses = flat_map clause_text f.clauses in
    let failed = rw (c.vars.ensures.vars, c.clauses-clauses.ensures.clauses) at
    c.in-Err.ensures.printed in
    fails-more c.in-Err.failed header clauses p q failed

pub returns-clause-printed : goal.returns-clause-printed
returns-clause-printed g c =
    let here = output_at g.K.Sink.written g.K.Sink.faults in
    let p = here c.args.printer.now.pending c.args.printer.now.sink.now in
    let q = here c.print_header.new.printer.pending c.print_header.new.printer.sink.now in
    let n = here c.print_clauses.new.printer.pending c.print_clauses.new.printer.sink.now in
    let f = c.args.formula.now in
    let header = header_text f.vars (length f.clauses) in
    let clauses = flat_map clause_text f.clauses in
    let printed =
    rw (c.vars.ensures.vars, c.clauses-clauses.ensures.clauses) at c.in-Ok.ensures.printed in
    let rest = rw c.clauses-clauses.ensures.clauses at c.print_clauses.ensures.printed in
    printed-then c.print_clauses.result header clauses p q n printed c.print_header.ensures.grows
    rest
