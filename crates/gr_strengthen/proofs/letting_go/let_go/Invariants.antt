use Rattle.std.proofs.Common.{length}
use Rattle.gr_strengthen.specs.LettingGo.{IsLettingGo}
use Rattle.gr_strengthen.proofs.letting_go.let_go.Given as goal

-- the ids in `rest` are still to be looked at
abbrev pub invariant-ids : goal.invariant-ids
invariant-ids l = IsLettingGo l.initial.base l.base l.last l.gone l.rest

abbrev pub decreases-ids : goal.decreases-ids
decreases-ids l = length l.rest
