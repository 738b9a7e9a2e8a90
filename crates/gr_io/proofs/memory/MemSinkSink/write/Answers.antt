-- what a failing call keeps is a front part of the piece
use Rattle.gr_io.proofs.Parts.{front_gained}
use Rattle.gr_io.proofs.memory.MemSinkSink.write.Goals as goal

pub returns-then-fails_next-clause-err : goal.returns-then-fails_next-clause-err
returns-then-fails_next-clause-err c =
    rw (← c.self.view_is) (front_gained _ _ _ _ c.keep_front.ensures)
