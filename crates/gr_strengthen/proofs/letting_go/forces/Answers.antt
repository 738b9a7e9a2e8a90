use Rattle.std.proofs.Common.{IsSome, sym, ◌∙◌, subst}
use Rattle.gr_trail.specs.Trails.{assigned_to}
use Rattle.gr_strengthen.proofs.WalkTrails.{true-some}
use Rattle.gr_strengthen.proofs.letting_go.forces.Goals as goal

pub reason-requires : goal.reason-requires
reason-requires c =
    subst (λ v. IsSome (assigned_to c.args.trail.now.assigned v)) (sym c.var.ensures.number)
    (true-some c.args.trail.now.assigned c.args.lit (sym c.is_true.ensures ∙ c.if-not-is_true.false))
