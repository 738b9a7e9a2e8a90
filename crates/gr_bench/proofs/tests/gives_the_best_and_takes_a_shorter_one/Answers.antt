use Rattle.std.proofs.Common.{sym, subst}
use Rattle.gr_diary.specs.Histories.{IsLegal}
use Rattle.gr_diary.specs.ExampleRuns.{shortening_run}
use Rattle.gr_bench.proofs.tests.gives_the_best_and_takes_a_shorter_one.Goals as goal

pub replay-requires-clause-legal : goal.replay-requires-clause-legal
replay-requires-clause-legal g c =
    subst (λ f. IsLegal f 1 2 shortening_run) (sym c.in_ok-formula.ensures) c.shortening_run_is_legal.ensures.0
