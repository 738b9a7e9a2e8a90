use Rattle.std.proofs.Common.{pos, w64}
use Rattle.std.proofs.lemmas.Int.{to_z_pos}
use Rattle.gr_lrat.proofs.Printed.{ok-spaced, err-spaced, part-spaced}
use Rattle.gr_lrat.proofs.writers.write_id.Goals as goal

pub returns-in-Ok-clause-ok : goal.returns-in-Ok-clause-ok
returns-in-Ok-clause-ok g c =
    let written = g.K.Sink.written in
    ok-spaced _ (pos c.args.id) (written c.args.printer.now.sink.now) (written
    c.number.new.self.sink.now) _
    c.args.printer.now.pending c.number.new.self.pending _ c.bytes.result
    (to_z_pos w64 c.args.id c.requires.1) c.in-Ok.ensures.ok c.bytes.ensures.ok

pub returns-in-Ok-clause-err : goal.returns-in-Ok-clause-err
returns-in-Ok-clause-err g c =
    let written = g.K.Sink.written in
    err-spaced _ (pos c.args.id) (written c.args.printer.now.sink.now) (written
    c.number.new.self.sink.now) _
    c.args.printer.now.pending c.number.new.self.pending c.bytes.result
    (to_z_pos w64 c.args.id c.requires.1) c.in-Ok.ensures.ok c.bytes.ensures.err

pub returns-in-Err-clause-err : goal.returns-in-Err-clause-err
returns-in-Err-clause-err g c =
    part-spaced _ (pos c.args.id) c.args.printer.now.pending _ _ (to_z_pos w64 c.args.id
    c.requires.1) c.in-Err.ensures.err
