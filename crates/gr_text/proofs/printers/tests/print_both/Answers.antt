-- what a sink has where the second piece, or the handing on, fails
use Rattle.gr_text.proofs.Printing.{prints_part, prints_then, prints_then_part}
use Rattle.gr_text.proofs.printers.tests.print_both.Goals as goal

pub returns-in-Err-bytes-clause-err : goal.returns-in-Err-bytes-clause-err
returns-in-Err-bytes-clause-err g c =
    prints_then_part _ _ _ _ _ _ _ c.in-Ok.ensures.ok c.in-Err-bytes.ensures.err

pub returns-in-Err-flush-clause-err : goal.returns-in-Err-flush-clause-err
returns-in-Err-flush-clause-err g c =
    let both = prints_then _ _ _ _ _ _ _ _ c.in-Ok.ensures.ok c.in-Ok-bytes.ensures.ok in
    prints_part _ _ _ _ _ _ both c.in-Err-flush.ensures.err
