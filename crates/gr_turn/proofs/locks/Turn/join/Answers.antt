use Rattle.std.proofs.Common.{rules, ap, ◌∙◌}
use Rattle.gr_turn.proofs.Steps.{glances}
use Rattle.gr_turn.proofs.Ends.{glues}
use Rattle.gr_turn.proofs.BetweenCalls.{is_away, taken_in, is_joined}
use Rattle.gr_turn.proofs.locks.Turn.join.Goals as goal

-- the join keeps the rule
pub join_seat-requires : goal.join_seat-requires
join_seat-requires g c =
    let away = is_away g.T.Keeps.number _ _ _ c.seat.view_is c.seat.invariant c.requires.away.1 in
    let other =
    is_away g.T.Keeps.number _ _ _ c.other.view_is c.other.invariant c.requires.other.0.1 in (
      search rules,
      search rules,
      search rules,
      search rules,
      glues g.T.Keeps.history g.T.Keeps.number g.T.Keeps.fixed _ _ _ _ c.seat.invariant.live
          (ap (λ s. s.number) c.seat.view_is ∙ c.requires.first) away c.other.invariant.live other,
    )

-- and so does the look
pub load-requires : goal.load-requires
load-requires g c =
    (search rules, search rules, glances g.T.Keeps.history g.T.Keeps.number g.T.Keeps.fixed _ _ _ _)

-- the longer history has the seat's own entries
pub invariant_of-seat : goal.invariant_of-seat
invariant_of-seat g c =
    let away = is_away g.T.Keeps.number _ _ _ c.seat.view_is c.seat.invariant c.requires.away.1 in
    let now =
    taken_in g.T.Keeps.number c.seat.inside.place.me.0 c.other.inside.place.me.0
    c.seat.inside.place.me.1 _ _ c.join_seat.ensures.2 c.seat.invariant.live c.seat.invariant.own_is
    c.seat.invariant.in_hand away c.load.ensures.2 in
    now.0

pub returns-clause-all : goal.returns-clause-all
returns-clause-all g c =
    let away = is_away g.T.Keeps.number _ _ _ c.seat.view_is c.seat.invariant c.requires.away.1 in
    let now =
    taken_in g.T.Keeps.number c.seat.inside.place.me.0 c.other.inside.place.me.0
    c.seat.inside.place.me.1 _ _ c.join_seat.ensures.2 c.seat.invariant.live c.seat.invariant.own_is
    c.seat.invariant.in_hand away c.load.ensures.2 in
    now.0.own_is

-- both histories begin it
pub returns-clause-seat : goal.returns-clause-seat
returns-clause-seat g c =
    let away = is_away g.T.Keeps.number _ _ _ c.seat.view_is c.seat.invariant c.requires.away.1 in
    let now =
    taken_in g.T.Keeps.number c.seat.inside.place.me.0 c.other.inside.place.me.0
    c.seat.inside.place.me.1 _ _ c.join_seat.ensures.2 c.seat.invariant.live c.seat.invariant.own_is
    c.seat.invariant.in_hand away c.load.ensures.2 in
    is_joined g.T.Keeps.number _ _ _ _ _ c.seat.inside.place.me.0 c.other.inside.place.me.0
    c.seat.inside.place.me.1 _ c.seat.view_is c.other.view_is
    (c.load.ensures.0 ∙ c.join_seat.ensures.0) c.seat.invariant.sums now.1 now.2 now.3 now.4
