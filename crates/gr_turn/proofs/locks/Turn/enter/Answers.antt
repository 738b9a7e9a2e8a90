use Rattle.std.proofs.Common.{rules, refl, sym, ◌∙◌, subst, Some}
use Rattle.std.specs.Option.{IsSome}
use Rattle.gr_turn.proofs.Steps.{draws}
use Rattle.gr_turn.proofs.BetweenCalls.{is_away}
use Rattle.gr_turn.proofs.WithinTurns.{has_ticket, has_slot, slot_value, entered}
use Rattle.gr_turn.proofs.locks.Turn.enter.Goals as goal

-- the draw keeps the rule
pub fetch_add-ticket-requires : goal.fetch_add-ticket-requires
fetch_add-ticket-requires g c =
    let away = is_away g.T.Keeps.number _ _ _ c.seat.view_is c.seat.invariant c.requires.1 in (
      search rules,
      search rules,
      draws g.T.Keeps.history g.T.Keeps.number g.T.Keeps.fixed _ _ _ away c.seat.invariant.live,
    )

-- the seat has the ticket
pub look_until_served-requires-clause-ticket : goal.look_until_served-requires-clause-ticket
look_until_served-requires-clause-ticket g c =
    λ _ _. has_ticket g.T.Keeps.history g.T.Keeps.number g.T.Keeps.fixed c.seat.inside.place.me
    c.fetch_add-ticket.new.seat.me c.fetch_add-ticket.result c.seat.invariant.live
    c.fetch_add-ticket.ensures.2

-- then it has the slot, with the value
pub exchange-requires : goal.exchange-requires
exchange-requires g c =
    let served = c.look_until_served.ensures.served in (
      search rules,
      (Some served.value, has_slot g.T.Keeps.history g.T.Keeps.number g.T.Keeps.fixed _ _ served),
    )

pub unwrap-value-requires : goal.unwrap-value-requires
unwrap-value-requires g c =
    let is =
    slot_value g.T.Keeps.history g.T.Keeps.number g.T.Keeps.fixed _ _
    c.look_until_served.ensures.served c.exchange.result c.exchange.ensures.2 in
    subst IsSome (sym is) refl

-- and is in its turn
pub invariant_of-seat : goal.invariant_of-seat
invariant_of-seat g c =
    let e =
    entered g.T.Keeps.history g.T.Keeps.number g.T.Keeps.fixed _ _ _ _ _ _ _ _ _ _ c.seat.view_is
    c.requires.1 c.seat.invariant c.fetch_add-ticket.ensures.2 c.look_until_served.ensures.served
    c.exchange.ensures.2 c.exchange.ensures.3 c.unwrap-value.ensures
    (c.exchange.ensures.0 ∙ (c.look_until_served.ensures.lock ∙ c.fetch_add-ticket.ensures.0)) in
    e.fit

pub returns : goal.returns
returns g c =
    let e =
    entered g.T.Keeps.history g.T.Keeps.number g.T.Keeps.fixed _ _ _ _ _ _ _ _ _ _ c.seat.view_is
    c.requires.1 c.seat.invariant c.fetch_add-ticket.ensures.2 c.look_until_served.ensures.served
    c.exchange.ensures.2 c.exchange.ensures.3 c.unwrap-value.ensures
    (c.exchange.ensures.0 ∙ (c.look_until_served.ensures.lock ∙ c.fetch_add-ticket.ensures.0)) in
    record { seat = e.seat; seen = e.seen; own = e.own; fixed = e.part; all = e.all }
