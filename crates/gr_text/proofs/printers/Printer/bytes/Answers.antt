-- a long piece goes to the sink behind what was pending
use Rattle.gr_io.proofs.Parts.{gains_then_part}
use Rattle.gr_text.proofs.Printing.{prints_through}
use Rattle.gr_text.proofs.printers.Printer.bytes.Goals as goal

pub returns-in-Ok-write-clause-ok : goal.returns-in-Ok-write-clause-ok
returns-in-Ok-write-clause-ok g c =
    prints_through _ _ _ _ _ _ c.in-Ok.ensures.ok c.in-Ok-write.ensures.ok c.in-Ok.ensures.sent

pub returns-in-Err-write-clause-err : goal.returns-in-Err-write-clause-err
returns-in-Err-write-clause-err g c =
    gains_then_part _ _ _ _ _ c.in-Ok.ensures.ok c.in-Err-write.ensures.err
