use Rattle.gr_text.proofs.Readings.{lines_counted}
use Rattle.gr_text.proofs.laws.lines_are_counted.Goals as goal

pub returns : goal.returns
returns c = lines_counted
