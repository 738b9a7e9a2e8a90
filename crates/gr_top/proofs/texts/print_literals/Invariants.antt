use Rattle.std.proofs.Common.{◌≡◌, ◌≤◌, drop}
use Rattle.gr_top.specs.Texts.{literals_text, true_literals}
use Rattle.gr_lrat.proofs.Printed.{HasFront}
use Rattle.gr_top.proofs.texts.print_literals.Given as goal

-- the literals of the values before this one are printed
abbrev pub invariant-loop-value : goal.invariant-loop-value
invariant-loop-value g l = record {
  same : l.printer.sink.ghost_name ≡ l.fn.printer.sink.ghost_name;
  front : HasFront (literals_text 0 (true_literals 0 l.values))
      (literals_text l.place (true_literals l.var (drop l.value-index l.values)))
      (g.K.Sink.written l.fn.printer.sink.now) l.fn.printer.pending
      (g.K.Sink.written l.printer.sink.now) l.printer.pending;
  grows : g.K.Sink.faults l.fn.printer.sink.now ≤ g.K.Sink.faults l.printer.sink.now;
  calm : g.K.Sink.faults l.printer.sink.now ≡ g.K.Sink.faults l.fn.printer.sink.now;
  var : l.var ≡ l.value-index;
  place : l.place ≤ 20;
}
