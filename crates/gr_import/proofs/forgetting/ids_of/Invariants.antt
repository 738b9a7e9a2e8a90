use Rattle.std.proofs.Common.{◌≡◌, map, take}
use Rattle.gr_import.proofs.forgetting.ids_of.Given as goal

abbrev pub invariant-loop-rank : goal.invariant-loop-rank
invariant-loop-rank l = l.ids.items ≡ map (λ rank. rank.id) (take l.rank-index l.ranks)
