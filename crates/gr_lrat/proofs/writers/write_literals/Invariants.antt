use Rattle.std.proofs.Common.{◌≡◌, drop}
use Rattle.gr_lrat.specs.Writing.{literals_text}
use Rattle.gr_lrat.proofs.Printed.{HasFront}
use Rattle.gr_lrat.proofs.writers.write_literals.Given as goal

-- what stands before the literals that are left is printed
abbrev pub invariant-loop-lit : goal.invariant-loop-lit
invariant-loop-lit g l = record {
  same : l.printer.sink.ghost_name ≡ l.fn.printer.sink.ghost_name;
  front : HasFront (literals_text l.lits) (literals_text (drop l.lit-index l.lits))
      (g.K.Sink.written l.fn.printer.sink.now) l.fn.printer.pending
      (g.K.Sink.written l.printer.sink.now) l.printer.pending;
  calm : g.K.Sink.faults l.printer.sink.now ≡ g.K.Sink.faults l.fn.printer.sink.now;
}
