use Rattle.std.proofs.Common.{◌≡◌, length}
use Rattle.gr_diary.specs.Diaries.{lines_coming}
use Rattle.gr_history.specs.HistoryLogs.{lines_in}
use Rattle.gr_history.proofs.LinePieces.{IsPrinted}
use Rattle.gr_history.proofs.history_texts.print_history.Given as goal

-- the lines before those that are still to come are printed
abbrev pub invariant-printing : goal.invariant-printing
invariant-printing g l = record {
  same : l.printer.sink.ghost_name ≡ l.fn.printer.sink.ghost_name;
  printed : IsPrinted (lines_in l.fn.diary) (lines_coming l.lines)
      (g.K.Sink.written l.fn.printer.sink.now) l.fn.printer.pending (g.K.Sink.faults l.fn.printer.sink.now)
      (g.K.Sink.written l.printer.sink.now) l.printer.pending (g.K.Sink.faults l.printer.sink.now);
}

abbrev pub decreases-printing : goal.decreases-printing
decreases-printing g l = length (lines_coming l.lines)
