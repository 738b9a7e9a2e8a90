use Rattle.gr_top.specs.Texts.{literals_text, true_literals}
use Rattle.gr_lrat.proofs.Printed.{part-longer, ok-then, err-then}
use Rattle.gr_top.proofs.Pieces.{on-err}
use Rattle.gr_top.proofs.texts.print_model.Goals as goal

pub returns-in_err-bytes-clause-err : goal.returns-in_err-bytes-clause-err
returns-in_err-bytes-clause-err g c =
    on-err c.from_residual.result
    (part-longer _ (literals_text 0 (true_literals 0 c.args.model.now)) c.args.printer.now.pending _ _
    c.in_err-bytes.ensures.err)

pub returns-clause-ok : goal.returns-clause-ok
returns-clause-ok g c =
    let values = c.values.ensures.values in
    ok-then _ (literals_text 0 (true_literals 0 c.args.model.now)) _ _ _ _ _ _ c.print_literals.result
    c.in_ok-bytes.ensures.ok (rw values at c.print_literals.ensures.ok)

pub returns-clause-err : goal.returns-clause-err
returns-clause-err g c =
    let values = c.values.ensures.values in
    err-then _ (literals_text 0 (true_literals 0 c.args.model.now)) _ _ _ _ _ c.print_literals.result
    c.in_ok-bytes.ensures.ok (rw values at c.print_literals.ensures.err)
