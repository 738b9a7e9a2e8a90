-- the literal's list has one watch less
use Rattle.std.proofs.Common.{ap, ◌∙◌}
use Rattle.gr_watch.specs.WatchLists.{taken_out, first_at}
use Rattle.gr_watch.proofs.Edits.{read, written}
use Rattle.gr_watch.proofs.lists.Watches.detach.Goals as goal

pub returns : goal.returns
returns c =
    written _ _ _ c.args.self.now c.self.view_is c.self.invariant.0 c.args.lit c.requires.known
    c.code.result c.code.ensures.code _ _
    (c.take_first.ensures ∙ ap (λ list. taken_out list (first_at c.args.place list))
    (read _ _ _ c.args.self.now c.self.view_is c.self.invariant.0 c.args.lit c.requires.known
    c.code.result c.code.ensures.code c.index_mut.result.now c.index_mut.ensures.value))
