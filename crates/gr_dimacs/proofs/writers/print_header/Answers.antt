use Rattle.std.proofs.Common.{[], ◌∷◌, ◌++◌, Err}
use Rattle.std.specs.Fmt.{decimal}
use Rattle.gr_dimacs.proofs.PrintedSteps.{fails-more, output_at, printed-then}
use Rattle.gr_dimacs.proofs.writers.print_header.Goals as goal

pub returns-in-Err-clause-printed : goal.returns-in-Err-clause-printed
returns-in-Err-clause-printed g c =
    let here = output_at g.K.Sink.written g.K.Sink.faults in
    let p = here c.args.printer.now.pending c.args.printer.now.sink.now in
    let q = here c.bytes.new.self.pending c.bytes.new.self.sink.now in
    let first = 112 ∷ 32 ∷ 99 ∷ 110 ∷ 102 ∷ 32 ∷ [] in
    let second = decimal c.args.vars ++ 32 ∷ [] in
    let third = decimal c.args.count ++ 10 ∷ [] in
    fails-more c.in-Err.failed first (second ++ third) p q
    (c.in-Err.ensures.err, c.in-Err.ensures.fault)

pub returns-in-Err-print_count-clause-printed : goal.returns-in-Err-print_count-clause-printed
returns-in-Err-print_count-clause-printed g c =
    let here = output_at g.K.Sink.written g.K.Sink.faults in
    let p = here c.args.printer.now.pending c.args.printer.now.sink.now in
    let q = here c.bytes.new.self.pending c.bytes.new.self.sink.now in
    let n = here c.print_count.new.printer.pending c.print_count.new.printer.sink.now in
    let first = 112 ∷ 32 ∷ 99 ∷ 110 ∷ 102 ∷ 32 ∷ [] in
    let second = decimal c.args.vars ++ 32 ∷ [] in
    let third = decimal c.args.count ++ 10 ∷ [] in
    printed-then (Err c.in-Err-print_count.failed) first (second ++ third) p q n c.in-Ok.ensures.ok
    c.bytes.ensures.grows
    (fails-more c.in-Err-print_count.failed second third q n
    c.in-Err-print_count.ensures.printed)

pub returns-clause-printed : goal.returns-clause-printed
returns-clause-printed g c =
    let here = output_at g.K.Sink.written g.K.Sink.faults in
    let p = here c.args.printer.now.pending c.args.printer.now.sink.now in
    let q = here c.bytes.new.self.pending c.bytes.new.self.sink.now in
    let n = here c.print_count.new.printer.pending c.print_count.new.printer.sink.now in
    let o = here c.print_count-2.new.printer.pending c.print_count-2.new.printer.sink.now in
    let first = 112 ∷ 32 ∷ 99 ∷ 110 ∷ 102 ∷ 32 ∷ [] in
    let second = decimal c.args.vars ++ 32 ∷ [] in
    let third = decimal c.args.count ++ 10 ∷ [] in
    printed-then c.print_count-2.result first (second ++ third) p q o c.in-Ok.ensures.ok
    c.bytes.ensures.grows
    (printed-then c.print_count-2.result second third q n o c.in-Ok-print_count.ensures.printed
    c.print_count.ensures.grows c.print_count-2.ensures.printed)
