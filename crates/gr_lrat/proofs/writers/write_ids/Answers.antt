use Rattle.std.proofs.Common.{◌∙◌, ◌+◌, drop, get_or, pos}
use Rattle.std.proofs.lemmas.List.{drop_more}
use Rattle.gr_lrat.specs.Writing.{ids_text, number_text}
use Rattle.gr_lrat.proofs.Printed.{front-failed, front-then}
use Rattle.gr_lrat.proofs.writers.write_ids.Goals as goal

pub returns-in-Err-clause-err : goal.returns-in-Err-clause-err
returns-in-Err-clause-err g c =
    let written = g.K.Sink.written in
    let xs = c.args.ids.now in
    let begun = c.args.printer.now in
    let here = c.loop-id.printer in
    let split = drop_more xs c.loop-id.id-index 0 c.loop-id-test.true in
    front-failed (ids_text xs) (number_text (pos (get_or c.args.ids.now c.loop-id.id-index 0)))
    (ids_text (drop (c.loop-id.id-index + 1) xs))
    (written begun.sink.now) (written here.sink.now) _ begun.pending here.pending
    (rw split at c.loop-id.invariant.front) c.in-Err.ensures.err

pub loop-id-preserved : goal.loop-id-preserved
loop-id-preserved g c =
    let written = g.K.Sink.written in
    let xs = c.args.ids.now in
    let begun = c.args.printer.now in
    let here = c.loop-id.printer in
    let then = c.write_id.new.printer in
    let split = drop_more xs c.loop-id.id-index 0 c.loop-id-test.true in
    record {
      same = c.write_id.ensures.same ∙ c.loop-id.invariant.same;
      front = front-then (ids_text xs) (number_text (pos (get_or c.args.ids.now c.loop-id.id-index
          0))) (ids_text (drop (c.loop-id.id-index + 1) xs))
          (written begun.sink.now) (written here.sink.now) (written then.sink.now)
          begun.pending here.pending then.pending
          (rw split at c.loop-id.invariant.front) c.in-Ok.ensures.ok;
      calm = c.in-Ok.ensures.calm ∙ c.loop-id.invariant.calm;
    }
