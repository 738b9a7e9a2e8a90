use Rattle.std.proofs.Common.{◌≡◌}
use Rattle.gr_lrat.specs.Answers.{to_pass}
use Rattle.gr_top.proofs.JudgedLogs.{Follows}
use Rattle.gr_top.proofs.checks.check_lines.Given as goal

-- the lines so far were accepted, and those to come decide the log
abbrev pub invariant-lines : goal.invariant-lines
invariant-lines g l = record {
  same : l.scanner.source.ghost_name ≡ l.fn.scanner.source.ghost_name;
  follows : Follows l.fn.formula (g.B.Source.left l.fn.scanner.source.now) l.checker l.last
      l.scanner.held (g.B.Source.left l.scanner.source.now);
  calm : g.B.Source.faults l.scanner.source.now ≡ g.B.Source.faults l.fn.scanner.source.now;
}

-- each line has bytes
abbrev pub decreases-lines : goal.decreases-lines
decreases-lines g l = to_pass l.scanner.held
