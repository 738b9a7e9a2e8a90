use Rattle.std.proofs.Common.{◌∙◌, ◌∷◌, ◌+◌, ap, sym, drop}
use Rattle.std.proofs.lemmas.List.{drop_more}
use Rattle.gr_logic.specs.Literals.{number_of}
use Rattle.gr_lrat.specs.Writing.{literals_text, number_text}
use Rattle.gr_lrat.proofs.Printed.{front-failed, front-then}
use Rattle.gr_lrat.proofs.writers.write_literals.Goals as goal

pub returns-in-Err-clause-err : goal.returns-in-Err-clause-err
returns-in-Err-clause-err g c =
    let written = g.K.Sink.written in
    let xs = c.args.lits.now in
    let begun = c.args.printer.now in
    let here = c.loop-lit.printer in
    let split = drop_more xs c.loop-lit.lit-index c.lit-item.result c.loop-lit-test.true
    ∙ ap (λ x. x ∷ drop (c.loop-lit.lit-index + 1) c.args.lits.now) (sym c.lit-item.is) in
    front-failed (literals_text xs) (number_text (number_of c.lit-item.result)) (literals_text (drop
    (c.loop-lit.lit-index + 1) xs))
    (written begun.sink.now) (written here.sink.now) _ begun.pending here.pending
    (rw split at c.loop-lit.invariant.front) c.in-Err.ensures.err

pub loop-lit-preserved : goal.loop-lit-preserved
loop-lit-preserved g c =
    let written = g.K.Sink.written in
    let xs = c.args.lits.now in
    let begun = c.args.printer.now in
    let here = c.loop-lit.printer in
    let then = c.write_literal.new.printer in
    let split = drop_more xs c.loop-lit.lit-index c.lit-item.result c.loop-lit-test.true
    ∙ ap (λ x. x ∷ drop (c.loop-lit.lit-index + 1) c.args.lits.now) (sym c.lit-item.is) in
    record {
      same = c.write_literal.ensures.same ∙ c.loop-lit.invariant.same;
      front = front-then (literals_text xs) (number_text (number_of c.lit-item.result))
          (literals_text (drop (c.loop-lit.lit-index + 1) xs))
          (written begun.sink.now) (written here.sink.now) (written then.sink.now)
          begun.pending here.pending then.pending
          (rw split at c.loop-lit.invariant.front) c.in-Ok.ensures.ok;
      calm = c.in-Ok.ensures.calm ∙ c.loop-lit.invariant.calm;
    }
