use Rattle.std.proofs.Common.{subst}
use Rattle.std.specs.Option.{IfSome, IfNone}
use Rattle.gr_prop.specs.Bases.{HasIdAt, LacksId}
use Rattle.gr_prop.proofs.Finding.{found-some, found-none}
use Rattle.gr_prop.proofs.bases.Base.find.Goals as goal

pub returns-clause-some : goal.returns-clause-some
returns-clause-some c =
    subst (λ b. IfSome c.get.result (λ place. HasIdAt b.clauses c.args.id place)) c.self.view_is
    (found-some _ c.self.inside.places c.args.id c.get.result c.self.invariant.0.indexed c.get.ensures)

pub returns-clause-none : goal.returns-clause-none
returns-clause-none c =
    subst (λ b. IfNone c.get.result (LacksId b.clauses c.args.id)) c.self.view_is
    (found-none _ c.self.inside.places c.args.id c.get.result c.self.invariant.0.indexed c.get.ensures)
