use Rattle.std.proofs.Common.{rules}
use Rattle.gr_reducer.proofs.working.work_once.Goals as goal

pub give-requires : goal.give-requires
give-requires g c = record {
  ready = record {
    lock = search rules;
    in_step = search rules;
    taken = c.in_ok-share_units.ensures.taken c.in_ok-taken.taken.id c.in_ok-taken.taken.clause
        c.in_ok-taken.ensures.taken;
    units = search rules;
  };
}
