-- so many of the ids are gone, and the trail is as it was
use Rattle.std.proofs.Common.{◌≡◌, take}
use Rattle.gr_search.specs.TakingOver.{AreLeft}
use Rattle.gr_search.proofs.taking.remove_all.Given as goal

abbrev pub invariant-loop-id : goal.invariant-loop-id
invariant-loop-id l = record {
  left : AreLeft l.fn.base.clauses l.base.clauses (take l.id-index l.ids);
  trail : l.base.trail ≡ l.fn.base.trail;
}
