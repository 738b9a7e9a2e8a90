use Rattle.std.proofs.Common.{◌≡◌, ◌≤◌, ◌+◌, length, cond}
use Rattle.gr_text.specs.Places.{known, limit_of}
use Rattle.gr_text.specs.Stands.{stand}
use Rattle.gr_lrat.proofs.PartRead.{ReadsPart}
use Rattle.gr_lrat.proofs.Reading.{PassesBlanks}
use Rattle.gr_lrat.proofs.readers.next_line.Given as goal

-- only blank lines and comments were passed so far
abbrev pub invariant-lines : goal.invariant-lines
invariant-lines g l = record {
  same : l.scanner.source.ghost_name ≡ l.fn.scanner.source.ghost_name;
  blanks : PassesBlanks l.fn.ended l.fn.scanner.held (g.S.Source.left l.fn.scanner.source.now)
      l.ended l.scanner.held (g.S.Source.left l.scanner.source.now);
  within : known l.fn.scanner.held ≤ limit_of l.fn.scanner.held →
      known l.scanner.held ≤ limit_of l.scanner.held;
  past : ReadsPart
      (stand g.S.Source.left g.S.Source.taken g.S.Source.faults l.fn.scanner.held
      l.fn.scanner.source.now)
      (stand g.S.Source.left g.S.Source.taken g.S.Source.faults l.scanner.held l.scanner.source.now);
}

abbrev pub decreases-lines : goal.decreases-lines
decreases-lines g l = length l.scanner.held.ahead + l.scanner.held.spare + cond l.ended 0 1
