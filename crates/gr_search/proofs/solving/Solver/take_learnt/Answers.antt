use Rattle.std.proofs.Common.{subst, arith}
use Rattle.gr_search.specs.Solvers.{IsReadyFor, IsReadyToLearn}
use Rattle.gr_search.proofs.Learnt.{normal-short}
use Rattle.gr_search.proofs.solving.Solver.take_learnt.Goals as goal

pub learn-requires-clause-small : goal.learn-requires-clause-small
learn-requires-clause-small c =
    let s = c.args.self.now in
    let ready : IsReadyToLearn s c.args.lbd = subst (IsReadyFor s) c.requires.asked c.requires.waiting.ready in
    let one = ready.short in
    let two = normal-short s.vars s.learnt ready.normal ready.within in
    let few = c.requires.waiting.steady.kept.few in
    omega (arith, one, two, few)
