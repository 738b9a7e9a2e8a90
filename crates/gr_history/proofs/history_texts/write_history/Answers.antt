use Rattle.std.proofs.Common.{◌≡◌, rules}
use Rattle.gr_lrat.specs.Writing.{log_text}
use Rattle.gr_history.specs.HistoryLogs.{lines_in}
use Rattle.gr_history.proofs.Cuts.{flushed-ok, flushed-err}
use Rattle.gr_history.proofs.history_texts.write_history.Goals as goal

pub returns-in-Ok-clause-ok : goal.returns-in-Ok-clause-ok
returns-in-Ok-clause-ok g c =
    let sink : c.proof-1.given.0 ≡ c.flush.new.self.sink.now = search rules in
    let begun : c.new-printer.result.sink.now ≡ c.args.proof.now = c.new-printer.ensures.sink in
    let printed = rw begun at c.in-Ok.ensures.ok in
    rw sink
    (flushed-ok c.flush.result (log_text (lines_in c.args.diary.now)) (g.K.Sink.written c.args.proof.now)
    (g.K.Sink.written c.print_history.new.printer.sink.now) (g.K.Sink.written c.flush.new.self.sink.now)
    c.new-printer.result.pending c.print_history.new.printer.pending c.new-printer.ensures.empty printed
    c.flush.ensures.ok)

pub returns-in-Ok-clause-err : goal.returns-in-Ok-clause-err
returns-in-Ok-clause-err g c =
    let sink : c.proof-1.given.0 ≡ c.flush.new.self.sink.now = search rules in
    let begun : c.new-printer.result.sink.now ≡ c.args.proof.now = c.new-printer.ensures.sink in
    let printed = rw begun at c.in-Ok.ensures.ok in
    rw sink
    (flushed-err c.flush.result (log_text (lines_in c.args.diary.now)) (g.K.Sink.written c.args.proof.now)
    (g.K.Sink.written c.print_history.new.printer.sink.now) (g.K.Sink.written c.flush.new.self.sink.now)
    c.new-printer.result.pending c.print_history.new.printer.pending c.new-printer.ensures.empty printed
    c.flush.ensures.err)
