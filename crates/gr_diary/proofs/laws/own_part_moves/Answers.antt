use Rattle.gr_diary.proofs.OwnMoves.{own-part-moves}
use Rattle.gr_diary.proofs.laws.own_part_moves.Goals as goal

pub returns : goal.returns
returns c = own-part-moves
