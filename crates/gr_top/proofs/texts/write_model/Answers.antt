use Rattle.std.proofs.Common.{◌≡◌, rules}
use Rattle.gr_top.specs.Texts.{satisfiable_text}
use Rattle.gr_history.proofs.Cuts.{flushed-ok, flushed-err}
use Rattle.gr_top.proofs.texts.write_model.Goals as goal

pub returns-in-Ok-clause-ok : goal.returns-in-Ok-clause-ok
returns-in-Ok-clause-ok g c =
    let sink : c.out-1.given.0 ≡ c.flush.new.self.sink.now = search rules in
    let begun : c.new-printer.result.sink.now ≡ c.args.out.now = c.new-printer.ensures.sink in
    let printed = rw begun at c.in-Ok.ensures.ok in
    rw sink
    (flushed-ok c.flush.result (satisfiable_text c.args.model.now) (g.K.Sink.written c.args.out.now)
    (g.K.Sink.written c.print_model.new.printer.sink.now) (g.K.Sink.written c.flush.new.self.sink.now)
    c.new-printer.result.pending c.print_model.new.printer.pending c.new-printer.ensures.empty
    printed c.flush.ensures.ok)

pub returns-in-Ok-clause-err : goal.returns-in-Ok-clause-err
returns-in-Ok-clause-err g c =
    let sink : c.out-1.given.0 ≡ c.flush.new.self.sink.now = search rules in
    let begun : c.new-printer.result.sink.now ≡ c.args.out.now = c.new-printer.ensures.sink in
    let printed = rw begun at c.in-Ok.ensures.ok in
    rw sink
    (flushed-err c.flush.result (satisfiable_text c.args.model.now) (g.K.Sink.written c.args.out.now)
    (g.K.Sink.written c.print_model.new.printer.sink.now) (g.K.Sink.written c.flush.new.self.sink.now)
    c.new-printer.result.pending c.print_model.new.printer.pending c.new-printer.ensures.empty
    printed c.flush.ensures.err)
