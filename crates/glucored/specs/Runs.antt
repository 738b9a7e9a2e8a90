-- what a run of the program comes to
use Rattle.std.specs.Prelude.{◌≡◌, ℕ, List}
use Rattle.gr_words.specs.Cases.{IsSolve, IsCheck, IsLarge, IsUnlawful}
use Rattle.gr_words.specs.Meanings.{Solving}
use Rattle.gr_words.specs.declared.calls.Kind.{Kind}
use Rattle.gr_top.specs.Checking.{Sources, Output, Checks}
use Rattle.gr_top.specs.Commands.{run_options}
use Rattle.gr_top.specs.Making.{Makes}
use Rattle.gr_top.specs.Refusing.{Refuses}
use Rattle.gr_top.specs.Streams.{Streams}
use Rattle.gr_top.specs.Solving.{Solves}
use Rattle.gr_top.specs.Statuses.{exit_code}
use Rattle.gr_top.specs.declared.reports.Report.{Report}

-- the exit status is that of a report for which the theorem of the words' command holds, or which says that they
-- are none
pub record Ends (words : List (List ℕ)) (old new : Streams) (s t : Sources) (a b : Output) (status : ℕ) : Type 0 where
  pub report : Report
  pub code : status ≡ exit_code report.status
  pub solve : (options : Solving) → IsSolve options words → Solves (run_options options) old new report
  pub check : IsCheck words → Checks s t a b report
  pub large : (kind : Kind) (n : ℕ) → IsLarge kind n words → Makes kind n a b report
  pub unlawful : IsUnlawful words → Refuses old new report
