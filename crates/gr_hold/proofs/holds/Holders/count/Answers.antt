-- the holders are the bits
use Rattle.std.proofs.Common.{sym, ap, ◌∙◌}
use Rattle.gr_hold.specs.Holding.{count_of}
use Rattle.gr_hold.specs.Words.{bits_below}
use Rattle.gr_hold.proofs.Pairs.{count-held}
use Rattle.gr_hold.proofs.holds.Holders.count.Goals as goal

pub returns : goal.returns
returns c =
    c.count_bits.ensures ∙ ap (λ word. bits_below word 11) c.find.ensures
    ∙ sym (count-held c.self.inside.words.entries c.args.id)
    ∙ ap (λ holding. count_of holding c.args.id) c.self.view_is
