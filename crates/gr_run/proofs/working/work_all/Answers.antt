use Rattle.std.proofs.Common.{rules, slice_index_or, sym, subst}
use Rattle.std.proofs.lemmas.Result.{IfOk-weaker}
use Rattle.gr_seat.specs.Turns.{SeesMore}
use Rattle.gr_run.specs.Beside.{AllSeeMore}
use Rattle.gr_run.proofs.working.work_all.Goals as goal

pub returns-clause-each : goal.returns-clause-each
returns-clause-each g c =
    IfOk-weaker c.map_vec.result _ (λ back. AllSeeMore c.args.seats.items back.items)
    (λ back each. λ k d e lt.
    let job = (each k e lt).1 in
    subst (λ h. SeesMore h (slice_index_or back.items k e)) (sym (job.job_is d)) (search (rules, job.call)))
    c.map_vec.ensures.each
