use Rattle.gr_dimacs.proofs.RoundTrip.{canonical-spells}
use Rattle.gr_dimacs.proofs.laws.canonical_spells.Goals as goal

pub returns : goal.returns
returns c = λ f bounded. canonical-spells f bounded
