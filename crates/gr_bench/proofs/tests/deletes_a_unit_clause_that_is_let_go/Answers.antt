use Rattle.std.proofs.Common.{sym, subst}
use Rattle.gr_diary.specs.Histories.{IsLegal}
use Rattle.gr_bench.specs.Runs.{letting_go}
use Rattle.gr_bench.proofs.LettingGo.{letting-go-is-legal}
use Rattle.gr_bench.proofs.tests.deletes_a_unit_clause_that_is_let_go.Goals as goal

pub replay-requires-clause-legal : goal.replay-requires-clause-legal
replay-requires-clause-legal g c =
    subst (λ f. IsLegal f 1 1 letting_go) (sym c.in_ok-formula.ensures) letting-go-is-legal
