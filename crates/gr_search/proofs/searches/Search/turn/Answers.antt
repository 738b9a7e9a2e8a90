-- a turn in which nothing is offered is a turn where the filter decides
use Rattle.gr_search.proofs.Offering.{offered-turn}
use Rattle.gr_search.proofs.searches.Search.turn.Goals as goal

pub returns-clause-turn : goal.returns-clause-turn
returns-clause-turn g c =
    offered-turn c.args.self.now.state c.turn.new.self c.args.told (goal.F-post g c.args.self.now.filter.f)
    c.in_ok-ask.ask c.offer.result c.offer.ensures.same c.offer.ensures.offered c.in_ok-ask.ensures.turn
