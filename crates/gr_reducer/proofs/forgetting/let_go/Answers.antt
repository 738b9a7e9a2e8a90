use Rattle.std.proofs.Common.{◌≡◌, ◌∙◌, ℕ, false, true, List, length, ap, ◌==◌}
use Rattle.gr_reducer.proofs.Ables.{may-forget}
use Rattle.gr_reducer.proofs.Forgets.{after-forget, free-after-forget}
use Rattle.gr_seat.specs.Turns.{Anything}
use Rattle.gr_reducer.proofs.forgetting.let_go.Goals as goal

pub reducer_forget-requires-clause-able : goal.reducer_forget-requires-clause-able
reducer_forget-requires-clause-able g c =
    may-forget c.args.seat.now c.args.keeping.now.strengthener c.requires.ready.in_step
    c.let_go_half.new.self.strengthener.kept c.in_ok-ids.ids c.requires.ready.free c.in_ok-ids.ensures.kept
    (λ none. (let e : false ≡ true = c.if-is_empty.ensures ∙ ap (λ (xs : List ℕ). length xs == 0) (c.all.ensures ∙ none)
    in cc))

pub returns-in-Ok-clause-ready : goal.returns-in-Ok-clause-ready
returns-in-Ok-clause-ready g c = record {
  lock = c.reducer_forget.ensures.turn.sees.same.lock ∙ c.requires.ready.lock;
  in_step = after-forget c.args.seat.now c.reducer_forget.new.seat c.args.keeping.now.strengthener
      c.let_go_half.new.self.strengthener c.in_ok-ids.ids Anything c.requires.ready.in_step c.requires.ready.free
      c.in_ok-ids.ensures.formula c.in_ok-ids.ensures.kept.rest c.reducer_forget.ensures.turn.sees
      c.in-Ok.ensures.ok;
  free = free-after-forget c.args.seat.now c.reducer_forget.new.seat c.args.keeping.now.strengthener
      c.let_go_half.new.self.strengthener c.in_ok-ids.ids Anything c.requires.ready.in_step c.requires.ready.free
      c.in_ok-ids.ensures.formula c.in_ok-ids.ensures.kept.rest c.reducer_forget.ensures.turn.sees
      c.in-Ok.ensures.ok;
}
