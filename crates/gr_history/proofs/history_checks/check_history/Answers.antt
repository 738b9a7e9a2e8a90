use Rattle.gr_history.specs.HistoryLogs.{lines_in}
use Rattle.gr_history.proofs.LinesLeft.{left-at-first}
use Rattle.gr_history.proofs.history_checks.check_history.Goals as goal

pub checking-init : goal.checking-init
checking-init c =
    rw (c.in_ok-checker.ensures, c.lines-lines.ensures)
    (left-at-first c.args.formula.now (lines_in c.args.diary.now))
