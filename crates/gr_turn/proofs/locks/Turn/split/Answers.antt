use Rattle.std.proofs.Common.{rules, ◌<◌, sym, ap, ◌∙◌, subst}
use Rattle.gr_turn.proofs.Steps.{glances}
use Rattle.gr_turn.proofs.Ends.{cuts}
use Rattle.gr_turn.proofs.BetweenCalls.{is_away, split_off}
use Rattle.gr_turn.proofs.locks.Turn.split.Goals as goal

-- the split keeps the rule
pub split_seat-place-requires : goal.split_seat-place-requires
split_seat-place-requires g c =
    let away = is_away g.T.Keeps.number _ _ _ c.seat.view_is c.seat.invariant c.requires.away.1 in (
      search rules,
      search rules,
      cuts g.T.Keeps.history g.T.Keeps.number g.T.Keeps.fixed _ _ c.seat.invariant.live
          (ap (λ s. s.number) c.seat.view_is ∙ c.requires.first) away
          (subst (λ n. n < 1000000) (sym (ap (λ s. s.splits) c.seat.view_is)) c.requires.few),
    )

-- and so does the look
pub load-requires : goal.load-requires
load-requires g c =
    (search rules, search rules, glances g.T.Keeps.history g.T.Keeps.number g.T.Keeps.fixed _ _ _ _)

-- the new seat has no entry, in what it has seen either
pub invariant_of-result : goal.invariant_of-result
invariant_of-result g c =
    (split_off g.T.Keeps.number c.seat.inside.place.me.0 _ _ c.split_seat-place.ensures.4
    c.load.ensures.2).0

pub returns-clause-all : goal.returns-clause-all
returns-clause-all g c =
    (split_off g.T.Keeps.number c.seat.inside.place.me.0 _ _ c.split_seat-place.ensures.4
    c.load.ensures.2).0.own_is
