-- a round begins where propagation ended quietly
use Rattle.std.proofs.Common.{sym, ◌∙◌}
use Rattle.gr_timing.proofs.Ended.{ends-quietly}
use Rattle.gr_timing.proofs.propagations.rounds.Goals as goal

pub descend-requires-clause-ended : goal.descend-requires-clause-ended
descend-requires-clause-ended c =
    ends-quietly c.loop-round.conflict c.loop-round.base (sym c.is_some.ensures ∙ c.if-is_some.false)
    c.loop-round.invariant.1
