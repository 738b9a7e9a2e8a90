-- one more variable has its place
use Rattle.std.proofs.Common.{◌+◌, ◌-◌, ℕ, Vec, Global, get_or, sym, ap, subst, arith}
use Rattle.std.proofs.lemmas.List.{get_or_default}
use Rattle.gr_hints.proofs.Placing.{AreSpread, spread-below, spread-from}
use Rattle.gr_hints.proofs.ordering.place.Goals as goal
use Rattle.gr_hints.proofs.ordering.place.Goals.{then-level, else-level}

pub loop-var-preserved : goal.loop-var-preserved
loop-var-preserved c =
    let assigned = c.args.trail.now.assigned in
    let vars = c.args.vars.now in
    let i = c.loop-var.var-index in
    let var = get_or vars i 0 in
    let s = c.loop-var.invariant in
    let low = c.loop-var-test.true in
    let read = get_or_default vars i 0 var low in
    let new = c.if-level.positions.items in
    elim c.if-level.branch [
      | then-level w ↦
          subst (λ b. AreSpread assigned vars new (i + 1) b c.if-level.from) (sym w.below-is)
          (subst (λ f. AreSpread assigned vars new (i + 1) c.loop-var.below f) (sym w.from-is)
          (spread-from assigned vars c.loop-var.positions.items new i c.loop-var.below c.loop-var.from
          (c.loop-var.from - 1) var c.position-position.result low read c.position-position.ensures
          (let room = s.room in let count = s.count in omega arith)
          (ap (λ (v : Vec ℕ Global). v.items) w.positions-is) s))
      | else-level w ↦
          subst (λ b. AreSpread assigned vars new (i + 1) b c.if-level.from) (sym w.below-is)
          (subst (λ f. AreSpread assigned vars new (i + 1) (c.loop-var.below + 1) f) (sym w.from-is)
          (spread-below assigned vars c.loop-var.positions.items new i c.loop-var.below c.loop-var.from var
          c.position-position.result low read c.position-position.ensures
          (ap (λ (v : Vec ℕ Global). v.items) w.positions-is) s))
    ]
