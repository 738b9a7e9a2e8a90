use Rattle.std.proofs.Common.{◌∙◌, take, get_or}
use Rattle.gr_search.proofs.Forgettable.{left-more, unneeded-left}
use Rattle.gr_search.proofs.taking.remove_all.Goals as goal

pub remove-requires : goal.remove-requires
remove-requires c =
    let ids = c.args.ids.now in
    let i = c.loop-id.id-index in
    record {
      unneeded = unneeded-left c.args.base.now c.loop-id.base (take i ids) (get_or ids i 0) c.loop-id.invariant.left
          c.loop-id.invariant.trail (c.requires.unneeded i 0 c.loop-id-test.true);
    }

pub loop-id-preserved : goal.loop-id-preserved
loop-id-preserved c = record {
  left = left-more c.args.base.now.clauses c.loop-id.base.clauses c.remove.new.base.clauses c.args.ids.now
      c.loop-id.id-index 0 c.loop-id-test.true c.loop-id.invariant.left c.remove.ensures.clauses;
  trail = c.remove.ensures.trail ∙ c.loop-id.invariant.trail;
}
