use Rattle.std.proofs.Common.{◌≡◌}
use Rattle.gr_dimacs.specs.Canonical.{literal_text}
use Rattle.gr_dimacs.specs.Printed.{output}
use Rattle.gr_dimacs.proofs.PrintedSteps.{PrintedUpTo}
use Rattle.gr_dimacs.proofs.writers.print_literals.Given as goal

-- the elements so far are printed
abbrev pub invariant-loop-lit : goal.invariant-loop-lit
invariant-loop-lit g l = record {
  same : l.printer.sink.ghost_name ≡ l.fn.printer.sink.ghost_name;
  printed : PrintedUpTo literal_text l.lits l.lit-index
      (output (g.K.Sink.written l.fn.printer.sink.now) l.fn.printer.pending
      (g.K.Sink.faults l.fn.printer.sink.now))
      (output (g.K.Sink.written l.printer.sink.now) l.printer.pending
      (g.K.Sink.faults l.printer.sink.now));
}
