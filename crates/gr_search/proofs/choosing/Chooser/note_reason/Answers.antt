use Rattle.std.proofs.Common.{ℕ, is_some, IsSome, sym, ap, ◌∙◌, subst}
use Rattle.gr_trail.specs.Trails.{assigned_to}
use Rattle.gr_search.proofs.StoredReasons.{reason-stored}
use Rattle.gr_search.proofs.TrailLiterals.{value-assigned}
use Rattle.gr_search.proofs.choosing.Chooser.note_reason.Goals as goal

pub lits-other-items-requires : goal.lits-other-items-requires
lits-other-items-requires c =
    reason-stored c.args.base.now c.trail-trail.result.now c.arena.result.now.clauses c.var.result c.in-Some.place
    c.arena.ensures.base c.trail-trail.ensures.trail c.arena.ensures.clauses c.in-Some.ensures

pub level-requires : goal.level-requires
level-requires c =
    let xs = c.trail-trail.result.now.assigned in
    subst (λ (n : ℕ). IsSome (assigned_to xs n)) (sym c.var-then-is_some.ensures.number)
    (value-assigned xs c.other-item.result
    (sym (ap is_some c.value.ensures) ∙ sym c.is_some.ensures ∙ c.if-is_some.true))
