use Rattle.std.proofs.Common.{sym, subst}
use Rattle.gr_diary.specs.Histories.{IsLegal}
use Rattle.gr_diary.specs.ExampleRuns.{skipping_run}
use Rattle.gr_bench.proofs.tests.lets_the_old_clause_go_with_the_import.Goals as goal

pub replay-requires-clause-legal : goal.replay-requires-clause-legal
replay-requires-clause-legal g c =
    subst (λ f. IsLegal f 1 1 skipping_run) (sym c.in_ok-formula.ensures) c.skipping_run_is_legal.ensures.0
