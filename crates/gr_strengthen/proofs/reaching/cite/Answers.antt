use Rattle.gr_strengthen.specs.Reached.{reach_in}
use Rattle.gr_strengthen.proofs.Accepting.{have-reasons}
use Rattle.gr_strengthen.proofs.reaching.cite.Goals as goal

pub gather-requires-clause-reasons : goal.gather-requires-clause-reasons
gather-requires-clause-reasons c =
    have-reasons c.args.arena.now c.args.trail.now c.args.source.now (reach_in c.args.reached.now) c.requires.graph
    c.requires.reached
