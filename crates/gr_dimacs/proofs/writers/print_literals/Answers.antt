use Rattle.std.proofs.Common.{◌∙◌, arith, refl}
use Rattle.std.proofs.lemmas.List.{drop_all}
use Rattle.gr_dimacs.specs.Canonical.{literal_text}
use Rattle.gr_dimacs.proofs.PrintedSteps.{item-behind, output_at, printed-all, printed-fails, printed-next, printed-none}
use Rattle.gr_dimacs.proofs.writers.print_literals.Goals as goal

pub loop-lit-init : goal.loop-lit-init
loop-lit-init g c =
    let here = output_at g.K.Sink.written g.K.Sink.faults in
    let p = here c.args.printer.now.pending c.args.printer.now.sink.now in
    record { same = refl; printed = printed-none literal_text c.args.lits.now p }

pub loop-lit-preserved : goal.loop-lit-preserved
loop-lit-preserved g c =
    let here = output_at g.K.Sink.written g.K.Sink.faults in
    let p = here c.args.printer.now.pending c.args.printer.now.sink.now in
    let q = here c.loop-lit.printer.pending c.loop-lit.printer.sink.now in
    let n = here c.print_literal.new.printer.pending c.print_literal.new.printer.sink.now in
    let x = c.lit-item.result in
    let i = c.loop-lit.lit-index in
    let next = item-behind c.args.lits.now i x c.loop-lit-test.true c.lit-item.is in
    record {
      same = c.print_literal.ensures.same ∙ c.loop-lit.invariant.same;
      printed = printed-next literal_text x c.args.lits.now i p q n c.loop-lit.invariant.printed
          next c.in-Ok.ensures.printed c.print_literal.ensures.grows;
    }

pub returns-in-Err-clause-printed : goal.returns-in-Err-clause-printed
returns-in-Err-clause-printed g c =
    let here = output_at g.K.Sink.written g.K.Sink.faults in
    let p = here c.args.printer.now.pending c.args.printer.now.sink.now in
    let q = here c.loop-lit.printer.pending c.loop-lit.printer.sink.now in
    let n = here c.print_literal.new.printer.pending c.print_literal.new.printer.sink.now in
    let x = c.lit-item.result in
    let i = c.loop-lit.lit-index in
    let next = item-behind c.args.lits.now i x c.loop-lit-test.true c.lit-item.is in
    printed-fails c.in-Err.failed literal_text x c.args.lits.now i p q n
    c.loop-lit.invariant.printed next c.in-Err.ensures.printed

pub returns-clause-printed : goal.returns-clause-printed
returns-clause-printed g c =
    let here = output_at g.K.Sink.written g.K.Sink.faults in
    let p = here c.args.printer.now.pending c.args.printer.now.sink.now in
    let q = here c.loop-lit.printer.pending c.loop-lit.printer.sink.now in
    printed-all literal_text c.args.lits.now c.loop-lit.lit-index p q c.loop-lit.invariant.printed
    (drop_all c.loop-lit.lit-index c.args.lits.now (omega arith))
