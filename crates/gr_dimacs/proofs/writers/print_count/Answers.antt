use Rattle.std.proofs.Common.{pos, arith}
use Rattle.std.proofs.lemmas.Int.{ints}
use Rattle.std.specs.Fmt.{signed_decimal}
use Rattle.gr_dimacs.proofs.PrintedSteps.{number-fails, number-printed, output_at, printed-by, printed-then}
use Rattle.gr_dimacs.proofs.writers.print_count.Goals as goal

pub returns-in-Err-clause-printed : goal.returns-in-Err-clause-printed
returns-in-Err-clause-printed g c =
    let here = output_at g.K.Sink.written g.K.Sink.faults in
    let p = here c.args.printer.now.pending c.args.printer.now.sink.now in
    let q = here c.number.new.self.pending c.number.new.self.sink.now in
    number-fails c.in-Err.failed _ (pos c.args.n) c.args.blank.now p q c.in-Err.ensures.err
    c.in-Err.ensures.fault (omega (arith, ints))

pub returns-clause-printed : goal.returns-clause-printed
returns-clause-printed g c =
    let here = output_at g.K.Sink.written g.K.Sink.faults in
    let p = here c.args.printer.now.pending c.args.printer.now.sink.now in
    let q = here c.number.new.self.pending c.number.new.self.sink.now in
    let n = here c.bytes.new.self.pending c.bytes.new.self.sink.now in
    let value = pos c.args.n in
    printed-then c.bytes.result (signed_decimal value) c.args.blank.now p q n
    (number-printed _ value p q c.in-Ok.ensures.ok (omega (arith, ints))) c.number.ensures.grows
    (printed-by c.bytes.result c.args.blank.now q n c.bytes.ensures.ok c.bytes.ensures.err
    c.bytes.ensures.fault)
