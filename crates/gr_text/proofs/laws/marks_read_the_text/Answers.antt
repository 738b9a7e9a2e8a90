use Rattle.gr_text.proofs.Readings.{reads_whole}
use Rattle.gr_text.proofs.laws.marks_read_the_text.Goals as goal

pub returns : goal.returns
returns c = reads_whole
