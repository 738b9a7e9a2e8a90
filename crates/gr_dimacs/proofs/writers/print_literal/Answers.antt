use Rattle.std.proofs.Common.{[], ◌∷◌, arith}
use Rattle.std.proofs.lemmas.Int.{ints}
use Rattle.gr_logic.specs.Literals.{number_of}
use Rattle.gr_dimacs.proofs.PrintedSteps.{by-value, number-fails, number-printed, output_at, printed-by, printed-then}
use Rattle.std.specs.Fmt.{signed_decimal}
use Rattle.gr_dimacs.proofs.writers.print_literal.Goals as goal

pub returns-in-Err-clause-printed : goal.returns-in-Err-clause-printed
returns-in-Err-clause-printed g c =
    let here = output_at g.K.Sink.written g.K.Sink.faults in
    let p = here c.args.printer.now.pending c.args.printer.now.sink.now in
    let q = here c.number-2.new.self.pending c.number-2.new.self.sink.now in
    number-fails c.in-Err.failed _ (number_of c.args.lit) (32 ∷ []) p q c.in-Err.ensures.err
    c.in-Err.ensures.fault (by-value c.number.ensures (omega (arith, ints)))

pub returns-clause-printed : goal.returns-clause-printed
returns-clause-printed g c =
    let here = output_at g.K.Sink.written g.K.Sink.faults in
    let p = here c.args.printer.now.pending c.args.printer.now.sink.now in
    let q = here c.number-2.new.self.pending c.number-2.new.self.sink.now in
    let n = here c.bytes.new.self.pending c.bytes.new.self.sink.now in
    let value = number_of c.args.lit in
    printed-then c.bytes.result (signed_decimal value) (32 ∷ []) p q n
    (number-printed _ value p q c.in-Ok.ensures.ok
    (by-value c.number.ensures (omega (arith, ints)))) c.number-2.ensures.grows
    (printed-by c.bytes.result (32 ∷ []) q n c.bytes.ensures.ok c.bytes.ensures.err
    c.bytes.ensures.fault)
