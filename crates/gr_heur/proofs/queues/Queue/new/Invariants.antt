-- the variables so far stand from the last slot down
use Rattle.gr_heur.proofs.Fresh.{IsFilled}
use Rattle.gr_heur.proofs.queues.Queue.new.Given as goal

abbrev pub invariant-loop-index : goal.invariant-loop-index
invariant-loop-index l = IsFilled l.vars l.slots.items l.places.items l.index
