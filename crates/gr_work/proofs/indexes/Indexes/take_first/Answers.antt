-- the earliest item leaves both maps
use Rattle.std.proofs.Common.{None, cond, ap, ◌∙◌}
use Rattle.std.specs.BTreeMap as tree
use Rattle.std.specs.Ordering.{nat_cmp, eq_by_cmp}
use Rattle.gr_work.specs.Ranks.{rank_cmp}
use Rattle.gr_work.proofs.Rankings.{removed}
use Rattle.gr_work.proofs.indexes.Indexes.take_first.Goals as goal

pub returns-in-Some-clause-ranked : goal.returns-in-Some-clause-ranked
returns-in-Some-clause-ranked c = record {
  in_order = c.in-Some.ensures.ordered;
  same = removed (tree.get nat_cmp c.args.self.now.arrivals) (tree.get nat_cmp c.pop_first.new.self)
      (tree.get rank_cmp c.args.self.now.ranking) (tree.get rank_cmp c.remove.new.self) c.in-Some.arrival
      c.in-Some.item c.requires.same c.in-Some.ensures.value c.in-Some.ensures.updates.0
      (λ r. c.remove.ensures.updates.0 r
      ∙ ap (λ k. cond (eq_by_cmp rank_cmp k r) None (tree.get rank_cmp c.args.self.now.ranking r)) c.new.ensures);
}
