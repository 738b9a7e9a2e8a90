-- the entry at the variable's index gets another reason
use Rattle.std.proofs.Common.{arith}
use Rattle.gr_trail.proofs.Finds.{var_is, index_in_range}
use Rattle.gr_trail.proofs.Reasons.{some, reason_stored, reason_seen}
use Rattle.gr_trail.proofs.trails.Trail.set_reason.Goals as goal

pub overflow_sub-var : goal.overflow_sub-var
overflow_sub-var c =
    var_is c.self.invariant c.self.view_is c.args.var (some c.self.invariant c.self.view_is
    c.args.var c.requires)

pub index_mut-requires : goal.index_mut-requires
index_mut-requires c =
    omega (
      arith,
      index_in_range c.self.invariant c.self.view_is c.args.var
          (some c.self.invariant c.self.view_is c.args.var c.requires),
    )

pub invariant_of-self : goal.invariant_of-self
invariant_of-self c =
    reason_stored c.self.invariant c.self.view_is c.args.var c.requires
    c.index_mut.result.now c.index_mut.ensures.value c.args.place

pub returns : goal.returns
returns c =
    reason_seen c.self.invariant c.self.view_is c.args.var c.requires
    c.index_mut.result.now c.index_mut.ensures.value c.args.place
