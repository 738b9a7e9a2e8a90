use Rattle.gr_lrat.specs.Writing.{ids_text, zero_line_feed}
use Rattle.gr_lrat.proofs.Printed.{ok-then, err-then}
use Rattle.gr_lrat.proofs.writers.write_list.Goals as goal

pub returns-in-Ok-clause-ok : goal.returns-in-Ok-clause-ok
returns-in-Ok-clause-ok g c =
    let written = g.K.Sink.written in
    let begun = c.args.printer.now in
    let then = c.write_ids.new.printer in
    ok-then (ids_text c.args.ids.now) zero_line_feed (written begun.sink.now) (written
    then.sink.now) _
    begun.pending then.pending _ c.bytes.result c.in-Ok.ensures.ok c.bytes.ensures.ok

pub returns-in-Ok-clause-err : goal.returns-in-Ok-clause-err
returns-in-Ok-clause-err g c =
    let written = g.K.Sink.written in
    let begun = c.args.printer.now in
    let then = c.write_ids.new.printer in
    err-then (ids_text c.args.ids.now) zero_line_feed (written begun.sink.now) (written
    then.sink.now) _
    begun.pending then.pending c.bytes.result c.in-Ok.ensures.ok c.bytes.ensures.err
