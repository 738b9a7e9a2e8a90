use Rattle.gr_prop.proofs.Lookups.{some-stored, family-stored}
use Rattle.gr_prop.proofs.laws.arenas_have_the_clauses.Goals as goal

pub returns : goal.returns
returns c = λ k clauses q lits is there told.
    (some-stored k clauses q is there, family-stored k clauses q lits is there told)
