use Rattle.std.proofs.Common.{refl}
use Rattle.gr_top.specs.Histories.{log_of}
use Rattle.gr_top.proofs.Reported.{model-answers, refutation-answers, unknown-answers, refuted-of, refutation-of}
use Rattle.gr_top.proofs.Answered.{where-written}
use Rattle.gr_top.proofs.runs.tell.Goals as goal

pub returns-in-Satisfiable-clause-answers : goal.returns-in-Satisfiable-clause-answers
returns-in-Satisfiable-clause-answers g c f o is offered =
    model-answers f o c.args.ran is offered _ _
    c.reported.result c.write_model-done.result c.in-Satisfiable.is c.write_model-done.ensures.ok
    c.write_model-done.ensures.err c.write_model-done.ensures.fault refl
    c.reported.ensures.status c.reported.ensures.reports

pub returns-in-Unsatisfiable-clause-answers : goal.returns-in-Unsatisfiable-clause-answers
returns-in-Unsatisfiable-clause-answers g c f o is offered =
    refutation-answers f o c.args.ran is offered
    _ _ c.reported-in-Unsatisfiable.result c.write_refutation-done.result c.in-Unsatisfiable.is
    c.write_refutation-done.ensures.ok c.write_refutation-done.ensures.err
    c.reported-in-Unsatisfiable.ensures.status c.reported-in-Unsatisfiable.ensures.reports

pub returns-in-Unknown-clause-answers : goal.returns-in-Unknown-clause-answers
returns-in-Unknown-clause-answers g c f o is offered =
    unknown-answers f o c.args.ran is offered _ _
    c.reported-in-Unknown.result c.write_unknown-done.result c.in-Unknown.is c.write_unknown-done.ensures.ok
    c.write_unknown-done.ensures.err c.write_unknown-done.ensures.fault refl
    c.reported-in-Unknown.ensures.status c.reported-in-Unknown.ensures.reports

pub returns-in-Unsatisfiable-clause-unrefuted : goal.returns-in-Unsatisfiable-clause-unrefuted
returns-in-Unsatisfiable-clause-unrefuted g c f o is none =
    let ran = c.args.ran in
    absurd (none (log_of f o ran.diary, refutation-of f o ran is (refuted-of f o ran is c.in-Unsatisfiable.is)))

pub returns-in-Satisfiable-clause-calm_out : goal.returns-in-Satisfiable-clause-calm_out
returns-in-Satisfiable-clause-calm_out g c well =
    where-written c.write_model-done.result _ _ c.reported.ensures.status well c.write_model-done.ensures.calm

pub returns-in-Unsatisfiable-clause-calm_out : goal.returns-in-Unsatisfiable-clause-calm_out
returns-in-Unsatisfiable-clause-calm_out g c well =
    where-written c.write_refutation-done.result _ _ c.reported-in-Unsatisfiable.ensures.status well
    c.write_refutation-done.ensures.calm_out

pub returns-in-Unsatisfiable-clause-calm_proof : goal.returns-in-Unsatisfiable-clause-calm_proof
returns-in-Unsatisfiable-clause-calm_proof g c well =
    where-written c.write_refutation-done.result _ _ c.reported-in-Unsatisfiable.ensures.status well
    c.write_refutation-done.ensures.calm_proof

pub returns-in-Unknown-clause-calm_out : goal.returns-in-Unknown-clause-calm_out
returns-in-Unknown-clause-calm_out g c well =
    where-written c.write_unknown-done.result _ _ c.reported-in-Unknown.ensures.status well
    c.write_unknown-done.ensures.calm
