use Rattle.std.proofs.Common.{◌∙◌, ◌++◌}
use Rattle.std.specs.Prelude.{codes}
use Rattle.std.specs.Fmt.{decimal}
use Rattle.gr_top.specs.Texts.{kind_line}
use Rattle.gr_lrat.proofs.Printed.{part-longer, ok-third, err-third, second-failed}
use Rattle.gr_top.proofs.Pieces.{on-err}
use Rattle.gr_top.proofs.texts.print_fault.Goals as goal

pub returns-in_err-bytes-clause-err : goal.returns-in_err-bytes-clause-err
returns-in_err-bytes-clause-err g c =
    on-err c.from_residual.result
    (part-longer (codes "c fault: line ") (decimal c.args.fault.line ++ kind_line c.args.fault.kind)
    c.args.printer.now.pending _ _ c.in_err-bytes.ensures.err)

pub returns-in_err-bytes-2-clause-err : goal.returns-in_err-bytes-2-clause-err
returns-in_err-bytes-2-clause-err g c =
    let line = c.as_bytes.ensures.value ∙ c.format-line.ensures.text in
    on-err c.from_residual-in_err-bytes-2.result
    (second-failed (codes "c fault: line ") (decimal c.args.fault.line) (kind_line c.args.fault.kind)
    _ _ _ c.args.printer.now.pending c.bytes.new.self.pending
    c.in_ok-bytes.ensures.ok (rw line at c.in_err-bytes-2.ensures.err))

pub returns-clause-ok : goal.returns-clause-ok
returns-clause-ok g c =
    let line = c.as_bytes.ensures.value ∙ c.format-line.ensures.text in
    let kind = c.as_bytes-2.ensures.value ∙ c.kind_line.ensures in
    ok-third (codes "c fault: line ") (decimal c.args.fault.line) (kind_line c.args.fault.kind)
    _ _ _ _ c.args.printer.now.pending c.bytes.new.self.pending c.bytes-2.new.self.pending _ c.bytes-3.result
    c.in_ok-bytes.ensures.ok (rw line at c.in_ok-bytes-2.ensures.ok) (rw kind at c.bytes-3.ensures.ok)

pub returns-clause-err : goal.returns-clause-err
returns-clause-err g c =
    let line = c.as_bytes.ensures.value ∙ c.format-line.ensures.text in
    let kind = c.as_bytes-2.ensures.value ∙ c.kind_line.ensures in
    err-third (codes "c fault: line ") (decimal c.args.fault.line) (kind_line c.args.fault.kind)
    _ _ _ _ c.args.printer.now.pending c.bytes.new.self.pending c.bytes-2.new.self.pending c.bytes-3.result
    c.in_ok-bytes.ensures.ok (rw line at c.in_ok-bytes-2.ensures.ok) (rw kind at c.bytes-3.ensures.err)
