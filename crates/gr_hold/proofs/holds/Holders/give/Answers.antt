-- the holder's bit is set
use Rattle.std.proofs.Common.{ap, ◌∙◌}
use Rattle.std.specs.FinSet as set
use Rattle.gr_hold.proofs.Bits.{written_as}
use Rattle.gr_hold.proofs.Pairs.{given, some_bit}
use Rattle.gr_hold.proofs.holds.Holders.give.Goals as goal

pub put-requires : goal.put-requires
put-requires c =
    some_bit c.find-word.result c.with_bit.result c.number.result c.number.ensures.within c.with_bit.ensures

pub returns-clause-ok : goal.returns-clause-ok
returns-clause-ok c =
    given c.self.inside.words.entries c.put.new.words.entries c.args.id c.with_bit.result c.args.by c.requires.holder
    c.in_ok-put.ensures.ok
    (written_as _ _ _ _ _ 1 c.find-word.ensures c.number.ensures.number c.with_bit.ensures)
    ∙ ap (λ holding. set.insert holding (c.args.id, c.args.by)) c.self.view_is
