use Rattle.gr_lrat.proofs.RoundTrip.{line_again}
use Rattle.gr_lrat.proofs.laws.written_lines_are_read.Goals as goal

pub returns : goal.returns
returns c = line_again
