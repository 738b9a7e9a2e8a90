use Rattle.std.proofs.Common.{◌∙◌}
use Rattle.gr_timing.proofs.watches.walk_one.Goals as goal
use Rattle.gr_timing.proofs.Lists.{put_back}

-- the list that was taken out is the one that is put back
pub returns-clause-watches : goal.returns-clause-watches
returns-clause-watches c =
    c.put.ensures
    ∙ put_back c.args.watches.now c.take-list.new.self c.args.lit c.take-list.result.items c.take-list.ensures.list
    c.take-list.ensures.rest
