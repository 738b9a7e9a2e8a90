use Rattle.gr_check.proofs.Reached.{line-reached, reached-refutes}
use Rattle.gr_check.proofs.tests.refute_in_part.Goals as goal

pub loop-line-preserved : goal.loop-line-preserved
loop-line-preserved c = record {
  reached =
      line-reached c.args.formula.now c.loop-line.checker c.line.new.self _ c.line.result
      c.loop-line.invariant.reached c.line.ensures.ok c.line.ensures.after c.line.ensures.err;
}

pub returns-in-Verified : goal.returns-in-Verified
returns-in-Verified c = λ _.
    reached-refutes c.args.formula.now c.loop-line.checker c.loop-line.invariant.reached
    (c.finish.ensures.0 c.in-Verified.is)
