use Rattle.gr_prop.proofs.MovedIds.{there, lacks}
use Rattle.gr_prop.proofs.laws.moved_clauses_keep_their_ids.Goals as goal

pub returns : goal.returns
returns c = λ old new id found moved has none.
    (there old new id found moved has, lacks old new id found moved none)
