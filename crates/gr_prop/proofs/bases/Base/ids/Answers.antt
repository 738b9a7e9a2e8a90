use Rattle.std.proofs.Common.{subst}
use Rattle.std.specs.Result.{IfOk}
use Rattle.gr_prop.specs.Bases.{BaseState}
use Rattle.gr_prop.specs.BaseChanges.{AreIdsOf}
use Rattle.gr_prop.proofs.Finding.{ids-are}
use Rattle.gr_prop.proofs.bases.Base.ids.Goals as goal

pub returns : goal.returns
returns c =
    subst (λ (b : BaseState). IfOk c.ids.result (λ ids. AreIdsOf b.clauses ids)) c.self.view_is
    (ids-are _ c.self.inside.places c.ids.result c.self.invariant.0.indexed c.ids.ensures)
