-- the bit is set, and the others stay
use Rattle.gr_hold.proofs.Bits.{set_bit}
use Rattle.gr_hold.proofs.words.with_bit.Goals as goal

pub returns : goal.returns
returns c = set_bit c.args.word c.args.bit c.requires
