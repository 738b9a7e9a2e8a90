use Rattle.std.proofs.Common.{◌+◌}
use Rattle.gr_text.proofs.Windows.{line-passed}
use Rattle.gr_text.proofs.holds.Held.end_line.Goals as goal

pub returns-clause-place : goal.returns-clause-place
returns-clause-place c =
    let h = c.self.inside in
    let i = c.self.invariant in
    let some = rw (← c.self.view_is) at c.requires in
    rw (← c.self.view_is)
    (line-passed h.bytes.items h.from h.to h.end h.passed h.spare (h.lines + 1) h.last h.first
    h.ended i.1 i.2 some)
