use Rattle.std.proofs.Common.{subst, All}
use Rattle.std.specs.Prelude.{Result, IfOk}
use Rattle.gr_logic.specs.Log.{HasIds}
use Rattle.gr_logic.specs.declared.memory.OutOfMemory.{OutOfMemory}
use Rattle.gr_history.specs.HistoryLogs.{lines_in}
use Rattle.gr_run.specs.Offers.{IsOfferedUpTo}
use Rattle.gr_run.specs.Results.{IsRan}
use Rattle.gr_run.specs.declared.results.Ran.{Ran}
use Rattle.gr_top.proofs.runs.answer.Goals as goal

pub returns-in-Ok-clause-answers : goal.returns-in-Ok-clause-answers
returns-in-Ok-clause-answers g c f o is offered =
    c.tell.ensures.answers f o (subst (λ (r : Result Ran OutOfMemory). IfOk r (IsRan f o)) c.in-Ok.is is)
    (subst (λ (r : Result Ran OutOfMemory). IfOk r (λ ran. All (IsOfferedUpTo o.offer) ran.diary.entries))
    c.in-Ok.is offered)

pub returns-in-Ok-clause-unrefuted : goal.returns-in-Ok-clause-unrefuted
returns-in-Ok-clause-unrefuted g c f o is none =
    c.tell.ensures.unrefuted f o (subst (λ (r : Result Ran OutOfMemory). IfOk r (IsRan f o)) c.in-Ok.is is) none
