-- the literal has the list that was put
use Rattle.std.proofs.Common.{refl}
use Rattle.gr_watch.proofs.Edits.{written}
use Rattle.gr_watch.proofs.lists.Watches.put.Goals as goal

pub returns : goal.returns
returns c = written _ _ _ c.args.self.now c.self.view_is c.self.invariant.0 c.args.lit c.requires
    c.code.result c.code.ensures.code _ _ refl
