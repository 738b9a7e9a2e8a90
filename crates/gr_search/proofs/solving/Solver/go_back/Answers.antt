use Rattle.std.proofs.Common.{sym, subst}
use Rattle.gr_trail.specs.Trails.{TrailState, up_to}
use Rattle.gr_prop.specs.Bases.{BaseState}
use Rattle.gr_search.specs.Deciding.{HoldsOpen}
use Rattle.gr_search.specs.Keeping.{IsKept}
use Rattle.gr_search.proofs.Steady.{kept-back}
use Rattle.gr_search.proofs.solving.Solver.go_back.Goals as goal

pub returns-clause-steady : goal.returns-clause-steady
returns-clause-steady c =
    let s = c.args.self.now in
    record {
      kept = subst (λ (b : BaseState). IsKept s.vars b.clauses b.trail s.settled c.go_back.new.self)
          (sym c.backtrack.ensures)
          (kept-back s.vars s.base.clauses s.base.trail s.settled s.chooser c.go_back.new.self c.args.level
          c.requires.steady.kept c.go_back.ensures.length
          (subst (λ (t : TrailState). HoldsOpen c.go_back.new.self (up_to c.args.level t.assigned))
          c.trail.ensures.trail c.go_back.ensures.undecided));
      analyzer = c.requires.steady.analyzer;
    }
