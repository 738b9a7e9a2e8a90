-- a round begins where propagation ended quietly
use Rattle.std.proofs.Common.{sym, ◌∙◌}
use Rattle.gr_timing.proofs.Ended.{ends-quietly}
use Rattle.gr_timing.proofs.analyses.rounds.Goals as goal

pub learn-requires-clause-ended : goal.learn-requires-clause-ended
learn-requires-clause-ended c =
    ends-quietly c.loop-round.conflict c.loop-round.base (sym c.is_some.ensures ∙ c.if-is_some.false)
    c.loop-round.invariant.ended
