use Rattle.std.proofs.Common.{◌∙◌, ap, subst, refl}
use Rattle.gr_words.specs.Calls.{Means, options_of}
use Rattle.gr_words.proofs.Cases.{call-solve, one-solve}
use Rattle.gr_top.specs.Commands.{run_options}
use Rattle.gr_top.specs.Streams.{streams}
use Rattle.gr_top.specs.Solving.{Solves}
use Rattle.gr_top.proofs.Called.{no-memory-solves, nothing-read}
use Rattle.gr_top.proofs.Answered.{where-written}
use Rattle.gr_top.proofs.runs.run.Goals as goal

pub returns-in-Ok-Solve-clause-solve : goal.returns-in-Ok-Solve-clause-solve
returns-in-Ok-Solve-clause-solve g c s is =
    let words = c.args.words.now in
    let meant = subst (Means words) c.in-Ok-Solve.field-0-is c.in-Ok-Solve.ensures.meaning in
    let call = call-solve words c.in-Ok-Solve.words c.in-Ok-Solve.ensures.lawful meant in
    let old =
    streams (g.A.Source.left c.args.cnf.now) (g.A.Source.faults c.args.cnf.now)
    (g.C.Sink.written c.args.out.now) (g.C.Sink.faults c.args.out.now)
    (g.D.Sink.written c.args.proof.now) (g.D.Sink.faults c.args.proof.now) in
    let new =
    streams (g.A.Source.left c.solve.new.cnf) (g.A.Source.faults c.solve.new.cnf)
    (g.C.Sink.written c.solve.new.out) (g.C.Sink.faults c.solve.new.out)
    (g.D.Sink.written c.solve.new.proof) (g.D.Sink.faults c.solve.new.proof) in
    subst (λ o. Solves o old new c.solve.result)
    (c.run_options.ensures.options
    ∙ ap run_options (one-solve words (options_of c.in-Ok-Solve.words) s call is)) c.solve.ensures.solves

pub returns-in-Ok-Solve-clause-proof_of_others : goal.returns-in-Ok-Solve-clause-proof_of_others
returns-in-Ok-Solve-clause-proof_of_others g c none =
    let words = c.args.words.now in
    let meant = subst (Means words) c.in-Ok-Solve.field-0-is c.in-Ok-Solve.ensures.meaning in
    absurd (none _ (call-solve words c.in-Ok-Solve.words c.in-Ok-Solve.ensures.lawful meant))

pub returns-in-Ok-Solve-clause-cnf : goal.returns-in-Ok-Solve-clause-cnf
returns-in-Ok-Solve-clause-cnf g c none other =
    let words = c.args.words.now in
    let meant = subst (Means words) c.in-Ok-Solve.field-0-is c.in-Ok-Solve.ensures.meaning in
    absurd (none _ (call-solve words c.in-Ok-Solve.words c.in-Ok-Solve.ensures.lawful meant))

pub returns-in-Err-OutOfMemory-clause-solve : goal.returns-in-Err-OutOfMemory-clause-solve
returns-in-Err-OutOfMemory-clause-solve g c s is =
    no-memory-solves (run_options s) _ _ c.bare.result (nothing-read (g.A.Source.left c.args.cnf.now))
    (record { out = refl; proof = refl }) c.bare.ensures.status
    (record { model = c.bare.ensures.model; diary = c.bare.ensures.diary })

pub returns-in-Err-Usage-clause-calm_out : goal.returns-in-Err-Usage-clause-calm_out
returns-in-Err-Usage-clause-calm_out g c well =
    where-written c.write_usage.result _ _ c.ended.ensures.status well c.write_usage.ensures.calm
