use Rattle.gr_check.proofs.Reached.{leads-on}
use Rattle.gr_check.proofs.laws.accepted_lines_lead_on.Goals as goal

pub returns : goal.returns
returns c = leads-on
