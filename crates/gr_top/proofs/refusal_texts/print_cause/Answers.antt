use Rattle.std.proofs.Common.{◌∙◌, ◌++◌, ◌∷◌, [], ap}
use Rattle.std.specs.Fmt.{decimal}
use Rattle.gr_top.specs.CheckTexts.{cause_name, cause_id}
use Rattle.gr_lrat.proofs.Printed.{part-longer, ok-third, err-third, second-failed}
use Rattle.gr_top.proofs.Pieces.{on-err}
use Rattle.gr_top.proofs.refusal_texts.print_cause.Goals as goal

pub returns-in_err-bytes-clause-err : goal.returns-in_err-bytes-clause-err
returns-in_err-bytes-clause-err g c =
    let name = c.as_bytes.ensures.value ∙ c.cause_name.ensures in
    on-err c.from_residual.result
    (part-longer (cause_name c.args.cause) (decimal (cause_id c.args.cause) ++ 10 ∷ [])
    c.args.printer.now.pending _ _ (rw name at c.in_err-bytes.ensures.err))

pub returns-in_err-bytes-2-clause-err : goal.returns-in_err-bytes-2-clause-err
returns-in_err-bytes-2-clause-err g c =
    let name = c.as_bytes.ensures.value ∙ c.cause_name.ensures in
    let id = c.as_bytes-2.ensures.value ∙ c.format-id.ensures.text ∙ ap decimal c.cause_id.ensures in
    on-err c.from_residual-in_err-bytes-2.result
    (second-failed (cause_name c.args.cause) (decimal (cause_id c.args.cause)) (10 ∷ [])
    _ _ _ c.args.printer.now.pending c.bytes.new.self.pending
    (rw name at c.in_ok-bytes.ensures.ok) (rw id at c.in_err-bytes-2.ensures.err))

pub returns-clause-ok : goal.returns-clause-ok
returns-clause-ok g c =
    let name = c.as_bytes.ensures.value ∙ c.cause_name.ensures in
    let id = c.as_bytes-2.ensures.value ∙ c.format-id.ensures.text ∙ ap decimal c.cause_id.ensures in
    ok-third (cause_name c.args.cause) (decimal (cause_id c.args.cause)) (10 ∷ [])
    _ _ _ _ c.args.printer.now.pending c.bytes.new.self.pending c.bytes-2.new.self.pending _ c.bytes-3.result
    (rw name at c.in_ok-bytes.ensures.ok) (rw id at c.in_ok-bytes-2.ensures.ok) c.bytes-3.ensures.ok

pub returns-clause-err : goal.returns-clause-err
returns-clause-err g c =
    let name = c.as_bytes.ensures.value ∙ c.cause_name.ensures in
    let id = c.as_bytes-2.ensures.value ∙ c.format-id.ensures.text ∙ ap decimal c.cause_id.ensures in
    err-third (cause_name c.args.cause) (decimal (cause_id c.args.cause)) (10 ∷ [])
    _ _ _ _ c.args.printer.now.pending c.bytes.new.self.pending c.bytes-2.new.self.pending c.bytes-3.result
    (rw name at c.in_ok-bytes.ensures.ok) (rw id at c.in_ok-bytes-2.ensures.ok) c.bytes-3.ensures.err
