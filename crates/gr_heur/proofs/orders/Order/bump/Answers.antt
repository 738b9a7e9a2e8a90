-- the variable is the most active one, and the bound stays behind all that are in
use Rattle.std.proofs.Common.{◌≡◌, ◌-◌, ◌<◌, ◌∙◌, false, length, ap, sym, arith}
use Rattle.std.specs.Prelude.{slice_index_or}
use Rattle.std.proofs.lemmas.Bool.{false≢true}
use Rattle.std.proofs.lemmas.List.{get_or_read}
use Rattle.gr_heur.specs.Orders.{OrderState}
use Rattle.gr_heur.proofs.Bumping.{bumped_stored}
use Rattle.gr_heur.proofs.orders.Order.bump.Goals as goal
use Rattle.gr_heur.proofs.orders.Order.bump.Goals.{then-index, else-index}

pub invariant_of-self : goal.invariant_of-self
invariant_of-self c =
    let index = c.args.var - 1 in
    let known : index < length c.self.inside.activities.items =
    omega (arith, c.requires.low, c.requires.high, ap (λ (s : OrderState). s.vars) c.self.view_is) in
    let in_it : index < length c.self.inside.present.items = omega (arith, known, c.self.invariant.each_known) in
    let reads : slice_index_or c.self.inside.present.items index false ≡ c.index.result.now =
    sym (get_or_read c.self.inside.present.items index c.index.result.now in_it c.index.ensures false) in
    let stored = bumped_stored c.self.invariant index known c.raise.new.self c.raise.ensures.ready
    c.raise.ensures.raises (omega (arith, c.if-self.false, c.self.invariant.counted)) c.if-index.self in
    elim c.if-index.branch [
      | then-index w ↦ stored (omega (arith, w.self-is)) (λ _. w.self-is)
          (λ place low near. omega (arith, near, w.self-is))
      | else-index w ↦
          (let least = w.min-self-inside.ensures in
          stored (omega (arith, w.self-is, least))
          (λ is_in. absurd (false≢true (sym w.if-index.false ∙ sym reads ∙ is_in)))
          (λ place low near. omega (arith, w.self-is, least, low, near)))
    ]
