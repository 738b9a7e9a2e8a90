-- the checker is at rest after a deletion
use Rattle.gr_check.proofs.Bounds.{without-AreBounded}
use Rattle.gr_check.proofs.checker.Checker.delete.Goals as goal

pub invariant_of-self-2 : goal.invariant_of-self-2
invariant_of-self-2 c = record {
  same_vars = c.self.invariant.same_vars;
  unmarked = c.self.invariant.unmarked;
  none_leaving = c.release.ensures;
  within =
      rw c.remove_all.ensures (without-AreBounded c.self.inside.vars c.args.ids.now
      c.self.inside.pool c.self.invariant.within);
}
