-- the bit is cleared, and the others stay
use Rattle.gr_hold.proofs.Bits.{cleared_bit}
use Rattle.gr_hold.proofs.words.without_bit.Goals as goal

pub returns : goal.returns
returns c = cleared_bit c.args.word c.args.bit c.requires
