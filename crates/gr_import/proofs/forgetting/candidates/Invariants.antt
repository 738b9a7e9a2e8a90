use Rattle.std.proofs.Common.{take}
use Rattle.gr_import.specs.Forgetting.{AreRanks}
use Rattle.gr_import.proofs.forgetting.candidates.Given as goal

abbrev pub invariant-loop-id : goal.invariant-loop-id
invariant-loop-id l = AreRanks l.base.clauses l.first_learnt (take l.id-index l.id-items) l.ranks.items
