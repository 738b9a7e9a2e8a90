-- the entry at the variable's index is what the trail has of it
use Rattle.std.proofs.Common.{ap, arith}
use Rattle.std.specs.Prelude.{option_map}
use Rattle.gr_trail.specs.Trails.{Assigned}
use Rattle.gr_trail.proofs.Finds.{var_is, index_in_range, entry_seen}
use Rattle.gr_trail.proofs.trails.Trail.level.Goals as goal

pub overflow_sub-var : goal.overflow_sub-var
overflow_sub-var c = var_is c.self.invariant c.self.view_is c.args.var c.requires

pub index-requires : goal.index-requires
index-requires c =
    let known = index_in_range c.self.invariant c.self.view_is c.args.var c.requires in omega (arith, known)

pub returns : goal.returns
returns c = ap (option_map (λ (a : Assigned). a.level))
    (entry_seen c.self.invariant c.self.view_is c.args.var c.requires c.index.result.now
    c.index.ensures)
