use Rattle.std.proofs.Common.{sym, subst}
use Rattle.gr_diary.specs.Histories.{IsLegal}
use Rattle.gr_diary.specs.Examples.{whole_run}
use Rattle.gr_bench.proofs.tests.a_reducers_unit_clause_is_a_result.Goals as goal

pub replay-requires-clause-legal : goal.replay-requires-clause-legal
replay-requires-clause-legal g c =
    subst (λ f. IsLegal f 1 1 whole_run) (sym c.in_ok-formula.ensures) c.whole_run_is_legal.ensures.0
