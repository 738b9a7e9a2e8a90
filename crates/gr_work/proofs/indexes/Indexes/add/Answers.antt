-- the latest item goes to the end of the one map, and to its rank in the other
use Rattle.std.proofs.Common.{◌≡◌, Some, cond, ap, ◌∙◌}
use Rattle.std.specs.Map.{remove_entry, values_of}
use Rattle.std.specs.BTreeMap as tree
use Rattle.std.specs.BTreeMap.{is_at}
use Rattle.std.specs.Ordering.{nat_cmp, eq_by_cmp}
use Rattle.gr_work.specs.Ranks.{rank_cmp}
use Rattle.gr_work.proofs.Entries.{added, taken_back, absent, values-push, same_ranking}
use Rattle.gr_work.proofs.Rankings.{put}
use Rattle.gr_work.proofs.indexes.Indexes.add.Goals as goal

-- the item that was put in is out again
back : (c : goal.After-remove) → c.remove.new.self.entries ≡ c.args.self.now.arrivals.entries
back c =
    c.remove.ensures.entries
    ∙ ap (remove_entry (is_at (nat_cmp c.args.arrival)))
    (c.in_ok-insert.ensures.entries
    ∙ added c.args.self.now.arrivals.entries c.args.arrival c.args.item c.requires.latest)
    ∙ taken_back c.args.self.now.arrivals.entries c.args.arrival c.args.item c.requires.latest

pub returns-in-Ok-clause-ok : goal.returns-in-Ok-clause-ok
returns-in-Ok-clause-ok c =
    ap values_of (c.in_ok-insert.ensures.entries
    ∙ added c.args.self.now.arrivals.entries c.args.arrival c.args.item c.requires.latest)
    ∙ values-push c.args.self.now.arrivals.entries c.args.arrival c.args.item

pub returns-in-Ok-clause-ranked : goal.returns-in-Ok-clause-ranked
returns-in-Ok-clause-ranked c = record {
  in_order = c.in_ok-insert.ensures.ordered;
  same = put (tree.get nat_cmp c.args.self.now.arrivals) (tree.get nat_cmp c.insert.new.self)
      (tree.get rank_cmp c.args.self.now.ranking) (tree.get rank_cmp c.insert-2.new.self) c.args.arrival c.args.item
      c.requires.ranked.same
      (absent c.args.self.now.arrivals.entries c.args.arrival c.requires.latest)
      c.in_ok-insert.ensures.updates.0
      (λ r. c.in-Ok.ensures.updates.0 r
      ∙ ap (λ k. cond (eq_by_cmp rank_cmp k r) (Some c.args.item) (tree.get rank_cmp c.args.self.now.ranking r))
      c.new.ensures);
}

pub returns-in-Err-clause-err : goal.returns-in-Err-clause-err
returns-in-Err-clause-err c = ap values_of (back c)

pub returns-in-Err-clause-ranked : goal.returns-in-Err-clause-ranked
returns-in-Err-clause-ranked c =
    same_ranking c.args.self.now.arrivals c.remove.new.self c.args.self.now.ranking c.insert-2.new.self (back c)
    c.in-Err.ensures.err c.remove.ensures.ordered c.requires.ranked
