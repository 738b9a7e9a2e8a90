-- the first of the ranking is the best, and leaves both maps
use Rattle.std.proofs.Common.{◌≡◌, None, Some, cond, sym, ap, ◌∙◌}
use Rattle.std.specs.Map.{values_of}
use Rattle.std.specs.BTreeMap as tree
use Rattle.std.specs.Ordering.{nat_cmp, eq_by_cmp}
use Rattle.gr_work.specs.Ranks.{rank_cmp, rank_of}
use Rattle.gr_work.proofs.Entries.{best_by_rank, none_by_rank, no_length, left_by_id}
use Rattle.gr_work.proofs.Rankings.{removed}
use Rattle.gr_work.proofs.indexes.Indexes.take_best.Goals as goal

-- where the best one stands
known : (c : goal.After-remove) → (c.in-Some.rank ≡ rank_of c.in-Some.rank.arrival c.in-Some.item)
    × (tree.get nat_cmp c.args.self.now.arrivals c.in-Some.rank.arrival ≡ Some c.in-Some.item)
known c = c.requires.ranked.same.arrived c.in-Some.rank c.in-Some.item c.in-Some.ensures.value

pub returns-in-Some-clause-best : goal.returns-in-Some-clause-best
returns-in-Some-clause-best c =
    sym (best_by_rank c.args.self.now.arrivals c.args.self.now.ranking c.requires.ranked c.in-Some.rank c.in-Some.item
    c.in-Some.ensures.value c.in-Some.ensures.least)

pub returns-in-Some-clause-rest : goal.returns-in-Some-clause-rest
returns-in-Some-clause-rest c =
    ap values_of c.remove.ensures.entries
    ∙ left_by_id c.args.self.now.arrivals.entries c.in-Some.rank.arrival c.in-Some.item (known c).1 c.requires.different

pub returns-in-Some-clause-ranked : goal.returns-in-Some-clause-ranked
returns-in-Some-clause-ranked c = record {
  in_order = c.remove.ensures.ordered;
  same = removed (tree.get nat_cmp c.args.self.now.arrivals) (tree.get nat_cmp c.remove.new.self)
      (tree.get rank_cmp c.args.self.now.ranking) (tree.get rank_cmp c.pop_first.new.self) c.in-Some.rank.arrival
      c.in-Some.item c.requires.ranked.same (known c).1 c.remove.ensures.updates.0
      (λ r. c.in-Some.ensures.updates.0 r
      ∙ ap (λ k. cond (eq_by_cmp rank_cmp k r) None (tree.get rank_cmp c.args.self.now.ranking r)) (known c).0);
}

pub returns-in-None-clause-best : goal.returns-in-None-clause-best
returns-in-None-clause-best c =
    sym (none_by_rank c.args.self.now.arrivals c.args.self.now.ranking c.requires.ranked
    (no_length _ c.in-None.ensures.variant.1))
