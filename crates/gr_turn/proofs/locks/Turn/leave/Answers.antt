use Rattle.std.proofs.Common.{rules, sym, ap, ◌∙◌, subst}
use mathlib.Core.List.{IsPrefix}
use Rattle.gr_turn.proofs.WithinTurns.{passes_back, passed_on}
use Rattle.gr_turn.proofs.locks.Turn.leave.Goals as goal

-- the pass keeps the rule
pub fetch_add-ticket-requires : goal.fetch_add-ticket-requires
fetch_add-ticket-requires g c = (
  search rules,
  search rules,
  passes_back g.T.Keeps.history g.T.Keeps.number g.T.Keeps.fixed _ _ _ _ c.args.held.value
      c.args.grown c.seat.invariant.live c.put_back.ensures.ready (search rules)
      (c.requires.fixed ∙ sym (ap (λ s. s.fixed) c.seat.view_is)),
)

-- what the seat had seen begins the history that it gave back
pub returns-clause-seen : goal.returns-clause-seen
returns-clause-seen g c =
    let p =
    passed_on g.T.Keeps.history g.T.Keeps.number g.T.Keeps.fixed _ _ _ c.args.held.value
    c.args.grown c.put_back.ensures.ready c.fetch_add-ticket.ensures.2 in
    (subst (λ s. IsPrefix s.seen c.fetch_add-ticket.new.seat.me.0.seen) c.seat.view_is p.0, p.1)
