use Rattle.std.proofs.Common.{◌+◌}
use Rattle.gr_text.proofs.Windows.{run-passed}
use Rattle.gr_text.proofs.holds.Held.skip_rest.Goals as goal

pub returns-then-count-ne0 : goal.returns-then-count-ne0
returns-then-count-ne0 c =
    let h = c.self.inside in
    let i = c.self.invariant in
    let count = rw c.deref.ensures.value at c.line-count.ensures.count in
    rw (← c.self.view_is)
    (run-passed _ h.bytes.items h.from h.to h.end _ h.passed h.spare (h.lines + 1) h.last h.first
    h.ended i.1 i.2 count c.if-count-ne0.true)
