use Rattle.std.proofs.Common.{◌++◌, pos}
use Rattle.gr_lrat.specs.Writing.{number_text, d_space, list_text}
use Rattle.gr_lrat.proofs.Printed.{on-err, ok-third, err-third, second-failed, part-longer}
use Rattle.gr_lrat.proofs.writers.write_deletion.Goals as goal

pub returns-in_err-write_id-clause-err : goal.returns-in_err-write_id-clause-err
returns-in_err-write_id-clause-err g c =
    on-err c.from_residual.result
    (part-longer (number_text (pos c.args.id)) (d_space ++ list_text c.args.ids.now)
    c.args.printer.now.pending _ _ c.in_err-write_id.ensures.err)

pub returns-in_err-bytes-clause-err : goal.returns-in_err-bytes-clause-err
returns-in_err-bytes-clause-err g c =
    on-err c.from_residual-in_err-bytes.result
    (second-failed (number_text (pos c.args.id)) d_space (list_text c.args.ids.now)
    _ _ _ c.args.printer.now.pending c.write_id.new.printer.pending
    c.in_ok-write_id.ensures.ok c.in_err-bytes.ensures.err)

pub returns-clause-ok : goal.returns-clause-ok
returns-clause-ok g c =
    ok-third (number_text (pos c.args.id)) d_space (list_text c.args.ids.now)
    _ _ _ _ c.args.printer.now.pending c.write_id.new.printer.pending c.bytes.new.self.pending _
    c.write_list.result c.in_ok-write_id.ensures.ok c.in_ok-bytes.ensures.ok c.write_list.ensures.ok

pub returns-clause-err : goal.returns-clause-err
returns-clause-err g c =
    err-third (number_text (pos c.args.id)) d_space (list_text c.args.ids.now)
    _ _ _ _ c.args.printer.now.pending c.write_id.new.printer.pending c.bytes.new.self.pending
    c.write_list.result c.in_ok-write_id.ensures.ok c.in_ok-bytes.ensures.ok c.write_list.ensures.err
