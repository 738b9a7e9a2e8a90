-- the literal's list gets one more
use Rattle.std.proofs.Common.{[], ◌∷◌, ◌++◌, ap, ◌∙◌}
use Rattle.gr_watch.proofs.Edits.{on_err, with_own, read, written}
use Rattle.gr_watch.specs.WatchLists.{list_of}
use Rattle.gr_watch.proofs.lists.Watches.attach.Goals as goal

pub returns-in_err-push-clause-err : goal.returns-in_err-push-clause-err
returns-in_err-push-clause-err c =
    on_err c.from_residual.result _
    (written _ _ _ c.args.self.now c.self.view_is c.self.invariant.0 c.args.lit c.requires
    c.code.result c.code.ensures.code _ (list_of c.args.self.now c.args.lit)
    (c.in_err-push.ensures.items ∙ read _ _ _ c.args.self.now c.self.view_is c.self.invariant.0
    c.args.lit c.requires c.code.result c.code.ensures.code c.index_mut.result.now
    c.index_mut.ensures.value)
    ∙ with_own c.args.self.now c.args.lit)

pub returns-clause-ok : goal.returns-clause-ok
returns-clause-ok c =
    written _ _ _ c.args.self.now c.self.view_is c.self.invariant.0 c.args.lit c.requires
    c.code.result c.code.ensures.code _ _
    (c.in_ok-push.ensures.items ∙ ap (λ list. list ++ c.args.watch ∷ [])
    (read _ _ _ c.args.self.now c.self.view_is c.self.invariant.0 c.args.lit c.requires
    c.code.result c.code.ensures.code c.index_mut.result.now c.index_mut.ensures.value))
