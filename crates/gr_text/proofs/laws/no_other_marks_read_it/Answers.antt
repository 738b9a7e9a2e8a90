use Rattle.gr_text.proofs.Readings.{reads_only}
use Rattle.gr_text.proofs.laws.no_other_marks_read_it.Goals as goal

pub returns : goal.returns
returns c = reads_only
