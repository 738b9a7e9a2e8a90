use Rattle.std.proofs.Common.{[], ◌∷◌}
use Rattle.std.specs.List.{flat_map}
use Rattle.gr_dimacs.specs.Canonical.{literal_text}
use Rattle.gr_dimacs.proofs.PrintedSteps.{fails-more, output_at, printed-by, printed-then}
use Rattle.gr_dimacs.proofs.writers.print_clause.Goals as goal

pub returns-in-Err-clause-printed : goal.returns-in-Err-clause-printed
returns-in-Err-clause-printed g c =
    let here = output_at g.K.Sink.written g.K.Sink.faults in
    let p = here c.args.printer.now.pending c.args.printer.now.sink.now in
    let q = here c.print_literals.new.printer.pending c.print_literals.new.printer.sink.now in
    fails-more c.in-Err.failed (flat_map literal_text c.args.lits.now) (48 ∷ 10 ∷ []) p q
    c.in-Err.ensures.printed

pub returns-clause-printed : goal.returns-clause-printed
returns-clause-printed g c =
    let here = output_at g.K.Sink.written g.K.Sink.faults in
    let p = here c.args.printer.now.pending c.args.printer.now.sink.now in
    let q = here c.print_literals.new.printer.pending c.print_literals.new.printer.sink.now in
    let n = here c.bytes.new.self.pending c.bytes.new.self.sink.now in
    printed-then c.bytes.result (flat_map literal_text c.args.lits.now) (48 ∷ 10 ∷ []) p q n
    c.in-Ok.ensures.printed c.print_literals.ensures.grows
    (printed-by c.bytes.result (48 ∷ 10 ∷ []) q n c.bytes.ensures.ok c.bytes.ensures.err
    c.bytes.ensures.fault)
