-- a run is found by its index or by a search
use Rattle.std.proofs.Common.{◌∙◌}
use Rattle.gr_check.specs.Entries.{far_entries}
use Rattle.gr_check.proofs.Entries.{in_near, in_far}
use Rattle.gr_check.proofs.runs.RunMap.get.Goals as goal

pub returns-in-Some : goal.returns-in-Some
returns-in-Some c =
    in_near c.args.self.now.near.items (far_entries 0 c.args.self.now.far_ids c.args.self.now.far.items) c.args.id
    c.near_run.result _ c.in-Some.is c.near_run.ensures

pub returns-in-None : goal.returns-in-None
returns-in-None c =
    c.far_run.ensures
    ∙ in_far c.args.self.now.near.items (far_entries 0 c.args.self.now.far_ids c.args.self.now.far.items) c.args.id
    c.near_run.result c.in-None.is c.near_run.ensures
