use Rattle.std.proofs.Common.{◌∙◌, ◌++◌, ℕ, List}
use Rattle.std.specs.Prelude.{codes}
use Rattle.std.specs.Fmt.{decimal}
use Rattle.gr_top.specs.CheckTexts.{not_verified_line, cause_text}
use Rattle.gr_lrat.proofs.Printed.{part-longer, ok-third, err-third, second-failed}
use Rattle.gr_top.proofs.Pieces.{on-err}
use Rattle.gr_top.proofs.refusal_texts.print_refused_line.Goals as goal

-- what comes before the number of the line
abbrev front : List ℕ
front = not_verified_line ++ codes "c log line "

pub returns-in_err-bytes-clause-err : goal.returns-in_err-bytes-clause-err
returns-in_err-bytes-clause-err g c =
    on-err c.from_residual.result
    (part-longer front (decimal c.args.line ++ cause_text c.args.cause)
    c.args.printer.now.pending _ _ c.in_err-bytes.ensures.err)

pub returns-in_err-bytes-2-clause-err : goal.returns-in_err-bytes-2-clause-err
returns-in_err-bytes-2-clause-err g c =
    let line = c.as_bytes.ensures.value ∙ c.format-line.ensures.text in
    on-err c.from_residual-in_err-bytes-2.result
    (second-failed front (decimal c.args.line) (cause_text c.args.cause)
    _ _ _ c.args.printer.now.pending c.bytes.new.self.pending
    c.in_ok-bytes.ensures.ok (rw line at c.in_err-bytes-2.ensures.err))

pub returns-clause-ok : goal.returns-clause-ok
returns-clause-ok g c =
    let line = c.as_bytes.ensures.value ∙ c.format-line.ensures.text in
    ok-third front (decimal c.args.line) (cause_text c.args.cause)
    _ _ _ _ c.args.printer.now.pending c.bytes.new.self.pending c.bytes-2.new.self.pending _ c.print_cause.result
    c.in_ok-bytes.ensures.ok (rw line at c.in_ok-bytes-2.ensures.ok) c.print_cause.ensures.ok

pub returns-clause-err : goal.returns-clause-err
returns-clause-err g c =
    let line = c.as_bytes.ensures.value ∙ c.format-line.ensures.text in
    err-third front (decimal c.args.line) (cause_text c.args.cause)
    _ _ _ _ c.args.printer.now.pending c.bytes.new.self.pending c.bytes-2.new.self.pending c.print_cause.result
    c.in_ok-bytes.ensures.ok (rw line at c.in_ok-bytes-2.ensures.ok) c.print_cause.ensures.err
