use Rattle.gr_search.proofs.Steady.{kept-added}
use Rattle.gr_search.proofs.solving.Solver.add_learnt.Goals as goal

pub returns-clause-steady : goal.returns-clause-steady
returns-clause-steady c =
    let s = c.restart.new.self in
    record {
      kept = kept-added s.vars s.base c.add.new.self c.args.id c.args.lbd s.learnt c.in_ok-add.field-0 s.settled
          s.chooser c.in_ok-add.ensures c.restart.ensures.steady.kept;
      analyzer = c.restart.ensures.steady.analyzer;
    }
