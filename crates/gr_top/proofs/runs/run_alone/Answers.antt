use Rattle.gr_top.proofs.Answered.{answer-is-no-read-fault}
use Rattle.gr_top.proofs.Called.{answer-solves}
use Rattle.gr_top.proofs.Reported.{ids-of}
use Rattle.gr_top.proofs.runs.run_alone.Goals as goal

pub answer-requires : goal.answer-requires
answer-requires g c = record {
  ids = ids-of c.in-Ok.formula c.args.options.now c.solve_alone.result c.solve_alone.ensures.ran;
}

pub returns-in-Ok-clause-solves : goal.returns-in-Ok-clause-solves
returns-in-Ok-clause-solves g c =
    answer-solves c.args.options.now _ _ c.in-Ok.formula c.answer.result c.in-Ok.ensures.answer
    (c.answer.ensures.answers c.in-Ok.formula c.args.options.now c.solve_alone.ensures.ran
    c.solve_alone.ensures.offered)

pub returns-in-Ok-clause-unrefuted : goal.returns-in-Ok-clause-unrefuted
returns-in-Ok-clause-unrefuted g c none =
    c.answer.ensures.unrefuted c.in-Ok.formula c.args.options.now c.solve_alone.ensures.ran
    (λ has. none (c.in-Ok.formula, c.in-Ok.ensures.answer, has))

pub returns-in-Ok-clause-out : goal.returns-in-Ok-clause-out
returns-in-Ok-clause-out g c is =
    absurd (answer-is-no-read-fault c.answer.result _ _ _ _ is
    (c.answer.ensures.answers c.in-Ok.formula c.args.options.now c.solve_alone.ensures.ran
    c.solve_alone.ensures.offered))

pub returns-in-Ok-clause-calm : goal.returns-in-Ok-clause-calm
returns-in-Ok-clause-calm g c well = c.in-Ok.ensures.calm tt

pub returns-in-Err-clause-solves : goal.returns-in-Err-clause-solves
returns-in-Err-clause-solves g c =
    c.report_unread.ensures.solves c.args.options.now _ _ _ _ _ _ c.in-Err.ensures.answer c.in-Err.ensures.fault

pub returns-in-Err-clause-calm : goal.returns-in-Err-clause-calm
returns-in-Err-clause-calm g c well = c.in-Err.ensures.calm (c.report_unread.ensures.told well)
