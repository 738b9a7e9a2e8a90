-- what stands last among those that are in is picked
use Rattle.std.proofs.Common.{◌≡◌, ◌+◌, sym, arith, subst}
use Rattle.std.specs.Prelude.{slice_index}
use Rattle.std.proofs.lemmas.List.{get_or_read}
use Rattle.gr_heur.specs.Orders.{IsIn, IsPicked}
use Rattle.gr_heur.specs.Queues.{IsLastIn}
use Rattle.gr_heur.proofs.Picking.{is_here, picked}
use Rattle.gr_heur.proofs.orders.Order.pick.Goals as goal

-- the slot that was found
found : (c : goal.After-self-3-1) → IsLastIn c.self.inside.queue.slots.items c.self.inside.queue.places.items
    c.self.inside.present.items c.self.inside.bound c.in-Some.place
found c = subst (λ present. IsLastIn c.self.inside.queue.slots.items c.self.inside.queue.places.items
    present c.self.inside.bound c.in-Some.place) c.as_slice.ensures.value c.in-Some.ensures

-- its variable
variable : (c : goal.After-self-3-1)
    → slice_index c.self.inside.queue.slots.items c.in-Some.place ≡ c.index-index.result.now
variable c =
    let below = (found c).below in
    let bounded = c.self.invariant.bounded in
    let short = c.self.invariant.ready.placed.short in
    sym (get_or_read c.self.inside.queue.slots.items c.in-Some.place c.index-index.result.now
    (omega arith) c.index-index.ensures 0)

pub returns-clause-picked : goal.returns-clause-picked
returns-clause-picked c =
    subst (λ s. IsPicked s (c.index-index.result.now + 1)) c.self.view_is
    (picked c.self.invariant (found c) c.index-index.result.now (variable c))

pub returns-clause-none : goal.returns-clause-none
returns-clause-none c = (
  λ never. absurd cc,
  λ none. absurd (none (c.index-index.result.now + 1)
      (subst (λ s. IsIn s (c.index-index.result.now + 1)) c.self.view_is
      (is_here c.self.invariant (found c) c.index-index.result.now (variable c)))),
)
