-- the literal's list has another watch at the index
use Rattle.std.proofs.Common.{ap, ◌∙◌, set}
use Rattle.gr_watch.proofs.Edits.{read, written}
use Rattle.gr_watch.proofs.lists.Watches.renew.Goals as goal

pub returns : goal.returns
returns c =
    written _ _ _ c.args.self.now c.self.view_is c.self.invariant.0 c.args.lit c.requires.known
    c.code.result c.code.ensures.code _ _
    (c.write.ensures ∙ ap (λ list. set list c.args.index c.args.watch)
    (read _ _ _ c.args.self.now c.self.view_is c.self.invariant.0 c.args.lit c.requires.known
    c.code.result c.code.ensures.code c.index_mut.result.now c.index_mut.ensures.value))
