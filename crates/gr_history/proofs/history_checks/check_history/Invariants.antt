use Rattle.std.proofs.Common.{length}
use Rattle.gr_diary.specs.Diaries.{lines_coming}
use Rattle.gr_history.specs.HistoryLogs.{lines_in}
use Rattle.gr_history.proofs.LinesLeft.{IsLeft}
use Rattle.gr_history.proofs.history_checks.check_history.Given as goal

-- the lines that are still to come decide the log
abbrev pub invariant-checking : goal.invariant-checking
invariant-checking l = IsLeft l.fn.formula (lines_in l.fn.diary) l.checker (lines_coming l.lines)

abbrev pub decreases-checking : goal.decreases-checking
decreases-checking l = length (lines_coming l.lines)
