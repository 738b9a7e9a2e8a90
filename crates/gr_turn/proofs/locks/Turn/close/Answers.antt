use Rattle.std.proofs.Common.{◌≡◌, refl, Some, sym, ap, ◌∙◌, subst}
use mathlib.Core.Option.{some-injective}
use mathlib.Core.List.{IsPrefix}
use Rattle.std.specs.Option.{IsSome}
use Rattle.gr_turn.specs.Views.{by}
use Rattle.gr_turn.proofs.Places.{some_same}
use Rattle.gr_turn.proofs.Ends.{closes}
use Rattle.gr_turn.proofs.BetweenCalls.{is_away}
use Rattle.gr_turn.proofs.locks.Turn.close.Goals as goal

-- the value is at home
pub unwrap-value-requires : goal.unwrap-value-requires
unwrap-value-requires g c =
    let last =
    closes g.T.Keeps.history g.T.Keeps.number g.T.Keeps.fixed _ _ _ _ c.seat.invariant.live
    (ap (λ s. s.number) c.seat.view_is ∙ c.requires.first)
    (is_away g.T.Keeps.number _ _ _ c.seat.view_is c.seat.invariant c.requires.away.1)
    (ap (λ s. s.out) c.seat.view_is ∙ c.requires.alone) c.close_with-closed.ensures.values.2 in
    let is : c.take.result ≡ Some last.0 =
    some-injective c.take.result (Some last.0) (sym c.take.ensures.value ∙ last.1) in
    subst IsSome (sym is) refl

-- its history begins with what the seat has seen and has the seat's own entries, and its fixed part
-- is the one that was opened
pub returns : goal.returns
returns g c =
    let last =
    closes g.T.Keeps.history g.T.Keeps.number g.T.Keeps.fixed _ _ _ _ c.seat.invariant.live
    (ap (λ s. s.number) c.seat.view_is ∙ c.requires.first)
    (is_away g.T.Keeps.number _ _ _ c.seat.view_is c.seat.invariant c.requires.away.1)
    (ap (λ s. s.out) c.seat.view_is ∙ c.requires.alone) c.close_with-closed.ensures.values.2 in
    let is : last.0 ≡ c.unwrap-value.result =
    some_same _ _
    (some-injective _ _ (sym last.1 ∙ c.take.ensures.value) ∙ c.unwrap-value.ensures) in
    record {
      seen = subst (λ s. IsPrefix s.seen (g.T.Keeps.history c.unwrap-value.result)) c.seat.view_is
          (subst (λ x. IsPrefix c.seat.inside.place.me.0.seen (g.T.Keeps.history x)) is last.2);
      own = subst
          (λ s. by g.T.Keeps.number (g.T.Keeps.history c.unwrap-value.result) s.number ≡ s.own)
          c.seat.view_is
          (subst (λ x. by g.T.Keeps.number (g.T.Keeps.history x) c.seat.inside.place.me.0.number
          ≡ c.seat.inside.place.me.0.own) is last.3);
      fixed = ap (λ x. Some (g.T.Keeps.fixed x)) (sym is)
          ∙ (last.4 ∙ ap (λ s. s.fixed) c.seat.view_is);
    }
