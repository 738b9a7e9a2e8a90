use Rattle.gr_lrat.proofs.ByLines.{by-lines}
use Rattle.gr_lrat.proofs.laws.logs_are_read_by_lines.Goals as goal

pub returns : goal.returns
returns c = by-lines
