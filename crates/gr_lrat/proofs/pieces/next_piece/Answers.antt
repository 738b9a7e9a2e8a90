use Rattle.gr_lrat.proofs.PartRead.{fails-at}
use Rattle.gr_lrat.proofs.pieces.next_piece.Goals as goal

pub returns-in-Err-clause-goes : goal.returns-in-Err-clause-goes
returns-in-Err-clause-goes g c =
    (c.next.ensures.goes, fails-at c.in-Err.failed _ _ c.in-Err.ensures.fault c.in-Err.ensures.calm)
