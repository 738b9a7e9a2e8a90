use Rattle.std.proofs.Common.{ap}
use Rattle.gr_prop.specs.Bases.{BaseState}
use Rattle.gr_search.proofs.Forgettable.{left-one}
use Rattle.gr_search.proofs.taking.remove.Goals as goal

pub returns-in-Some-clause-clauses : goal.returns-in-Some-clause-clauses
returns-in-Some-clause-clauses c =
    left-one c.args.base.now c.args.id c.in-Some.place c.remove.new.self.clauses c.trail-trail.ensures.base
    c.in-Some.ensures.some (ap (λ (b : BaseState). b.clauses) c.remove.ensures)
