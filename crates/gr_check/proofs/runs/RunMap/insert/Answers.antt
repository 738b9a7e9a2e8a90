-- a run is put where its id is an index, or behind those that are searched
use Rattle.std.proofs.Common.{◌≤◌, length, None, arith}
use Rattle.std.proofs.lemmas.List.{get_or_past}
use Rattle.gr_check.specs.Entries.{far_entries}
use Rattle.gr_check.proofs.Entries.{near_put, far_put}
use Rattle.gr_check.proofs.runs.RunMap.insert.Goals as goal

pub returns-then-is_far-clause-ok : goal.returns-then-is_far-clause-ok
returns-then-is_far-clause-ok c =
    let beyond : length c.args.self.now.near.items ≤ c.args.id =
    omega (arith, c.is_far.ensures.beyond c.if-is_far.true) in
    far_put c.args.self.now.near.items (far_entries 0 c.args.self.now.far_ids c.args.self.now.far.items) _ c.args.id
    c.args.run (get_or_past c.args.self.now.near.items c.args.id None beyond) c.in_ok-push_far.ensures.ok

pub returns-clause-ok : goal.returns-clause-ok
returns-clause-ok c =
    near_put c.args.self.now.near.items c.put_slot.new.slots.items
    (far_entries 0 c.args.self.now.far_ids c.args.self.now.far.items) c.args.id c.args.run
    c.in_ok-put_slot.ensures.ok
