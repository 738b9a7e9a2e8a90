-- a holder is a bit
use Rattle.std.proofs.Common.{nat_eq, sym, ap, ◌∙◌}
use Rattle.std.specs.Int.{bit_at}
use Rattle.std.specs.FinSet as set
use Rattle.gr_hold.proofs.Pairs.{bit-held}
use Rattle.gr_hold.proofs.holds.Holders.holds.Goals as goal

pub returns : goal.returns
returns c =
    c.has_bit.ensures
    ∙ (λ i. nat_eq (bit_at (c.find.ensures i) (c.number.ensures.number i)) 1)
    ∙ sym (bit-held c.self.inside.words.entries c.args.id c.args.by c.requires)
    ∙ ap (λ holding. set.contains holding (c.args.id, c.args.by)) c.self.view_is
