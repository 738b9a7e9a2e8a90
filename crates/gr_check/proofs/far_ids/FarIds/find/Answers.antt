-- an id is found at its place, or nowhere
use Rattle.gr_check.proofs.Ascending.{found_at, not_found}
use Rattle.gr_check.proofs.far_ids.FarIds.find.Goals as goal

pub returns-in-Ok : goal.returns-in-Ok
returns-in-Ok c =
    rw (← c.self.view_is)
    (found_at c.self.inside.ids.items c.args.id c.in-Ok.place c.self.invariant
    (rw c.deref.ensures.value at c.in-Ok.ensures.position))

pub returns-in-Err : goal.returns-in-Err
returns-in-Err c =
    rw (← c.self.view_is)
    (not_found c.self.inside.ids.items c.args.id c.in-Err.field-0 c.self.invariant
    (rw c.deref.ensures.value at c.in-Err.ensures.position))
