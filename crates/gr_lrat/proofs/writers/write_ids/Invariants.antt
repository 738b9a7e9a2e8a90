use Rattle.std.proofs.Common.{◌≡◌, drop}
use Rattle.gr_lrat.specs.Writing.{ids_text}
use Rattle.gr_lrat.proofs.Printed.{HasFront}
use Rattle.gr_lrat.proofs.writers.write_ids.Given as goal

-- what stands before the ids that are left is printed
abbrev pub invariant-loop-id : goal.invariant-loop-id
invariant-loop-id g l = record {
  same : l.printer.sink.ghost_name ≡ l.fn.printer.sink.ghost_name;
  front : HasFront (ids_text l.ids) (ids_text (drop l.id-index l.ids))
      (g.K.Sink.written l.fn.printer.sink.now) l.fn.printer.pending
      (g.K.Sink.written l.printer.sink.now) l.printer.pending;
  calm : g.K.Sink.faults l.printer.sink.now ≡ g.K.Sink.faults l.fn.printer.sink.now;
}
