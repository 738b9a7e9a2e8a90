use Rattle.std.proofs.Common.{rules}
use Rattle.gr_turn.proofs.WithinTurns.{counts_back}
use Rattle.gr_turn.proofs.locks.Turn.put_back.Goals as goal

-- the count keeps the rule
pub fetch_add-requires : goal.fetch_add-requires
fetch_add-requires g c = (
  search rules,
  search rules,
  counts_back g.T.Keeps.history g.T.Keeps.number g.T.Keeps.fixed _ _ _ _ c.args.value c.args.grown
      (search rules) c.requires.holding c.exchange.ensures.3 c.requires.history (search rules)
      (search rules),
)
