use Rattle.std.proofs.Common.{rules, sym, subst}
use Rattle.gr_turn.specs.Midway.{HasTicket}
use Rattle.gr_turn.proofs.Steps.{looks}
use Rattle.gr_turn.proofs.locks.Turn.look_until_served.Goals as goal

-- a look keeps the rule
pub load-requires : goal.load-requires
load-requires g c =
    let t = subst (HasTicket c.args.ticket) (sym c.loop.invariant.1) c.requires.ticket in (
      search rules,
      search rules,
      looks g.T.Keeps.history g.T.Keeps.number g.T.Keeps.fixed _ _ _ t.0 t.2 t.3 (search rules),
    )
