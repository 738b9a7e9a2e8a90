-- the holder's bit is cleared, and the bits that are left are counted
use Rattle.std.proofs.Common.{sym, ap, ◌∙◌}
use Rattle.std.specs.FinSet as set
use Rattle.gr_hold.specs.Words.{bits_below}
use Rattle.gr_hold.proofs.Bits.{written_as}
use Rattle.gr_hold.proofs.Pairs.{dropped, has_word, count-held, put_here}
use Rattle.gr_hold.proofs.holds.Holders.drop_hold.Goals as goal

pub replace-requires : goal.replace-requires
replace-requires c =
    has_word c.self.inside.words.entries c.args.id c.args.by c.requires.holder
    (ap (λ holding. set.contains holding (c.args.id, c.args.by)) c.self.view_is ∙ c.requires.there)

pub returns-clause-holders : goal.returns-clause-holders
returns-clause-holders c =
    dropped c.self.inside.words.entries c.replace.new.words.entries c.args.id c.without_bit-word.result c.args.by
    c.requires.holder c.replace.ensures.word
    (written_as _ _ _ _ _ 0 c.find.ensures c.number.ensures.number c.without_bit-word.ensures)
    ∙ ap (λ holding. set.remove holding (c.args.id, c.args.by)) c.self.view_is

pub returns-clause-left : goal.returns-clause-left
returns-clause-left c =
    c.count_bits.ensures
    ∙ ap (λ word. bits_below word 11)
    (sym (put_here c.self.inside.words.entries c.replace.new.words.entries c.args.id c.without_bit-word.result
    c.replace.ensures.word))
    ∙ sym (count-held c.replace.new.words.entries c.args.id)
