use Rattle.gr_prop.proofs.Models.{model}
use Rattle.gr_prop.proofs.laws.quiet_bases_are_models.Goals as goal

pub returns : goal.returns
returns c = model
