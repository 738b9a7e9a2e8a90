use Rattle.std.proofs.Common.{◌≡◌}
use Rattle.gr_dimacs.specs.Canonical.{clause_text}
use Rattle.gr_dimacs.specs.Printed.{output}
use Rattle.gr_dimacs.proofs.PrintedSteps.{PrintedUpTo}
use Rattle.gr_dimacs.proofs.writers.print_clauses.Given as goal

-- the elements so far are printed
abbrev pub invariant-loop-clause : goal.invariant-loop-clause
invariant-loop-clause g l = record {
  same : l.printer.sink.ghost_name ≡ l.fn.printer.sink.ghost_name;
  printed : PrintedUpTo clause_text l.clauses l.clause-index
      (output (g.K.Sink.written l.fn.printer.sink.now) l.fn.printer.pending
      (g.K.Sink.faults l.fn.printer.sink.now))
      (output (g.K.Sink.written l.printer.sink.now) l.printer.pending
      (g.K.Sink.faults l.printer.sink.now));
}
