use Rattle.gr_lrat.proofs.RoundTrip.{logs_again}
use Rattle.gr_lrat.proofs.laws.written_logs_read_back.Goals as goal

pub returns : goal.returns
returns c = logs_again
