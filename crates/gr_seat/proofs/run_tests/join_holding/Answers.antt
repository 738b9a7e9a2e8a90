use Rattle.std.proofs.Common.{◌∷◌, [], sym, ◌∙◌}
use Rattle.gr_seat.proofs.Held.{may_still_go}
use Rattle.gr_seat.proofs.run_tests.join_holding.Goals as goal

pub returns-clause-held : goal.returns-clause-held
returns-clause-held c =
    let joined = c.join_reducer.ensures in
    let seat = c.actor-actor.ensures in
    may_still_go c.args.solver.now c.join_reducer.new.solver (c.args.id ∷ []) (sym seat.actor ∙ seat.first)
    joined.same.0 seat.legal joined.legal joined.seen.0 joined.own c.requires.held
