use Rattle.std.proofs.Common.{◌+◌}
use Rattle.gr_text.proofs.Windows.{grown}
use Rattle.gr_text.proofs.holds.Held.grow_word.Goals as goal

pub returns : goal.returns
returns c =
    let h = c.self.inside in
    let i = c.self.invariant in
    let count = rw c.deref.ensures.value at c.word-count.ensures.count in
    rw (← c.self.view_is)
    (grown h.bytes.items h.from h.to h.end _ h.passed h.spare (h.lines + 1) h.last h.first h.ended
    i.0 i.1 i.2 count)
