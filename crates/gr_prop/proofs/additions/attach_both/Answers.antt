use Rattle.std.proofs.Common.{◌≡◌, [], length, take, ap, ◌∙◌}
use Rattle.gr_watch.specs.WatchLists.{list_of, with_list}
use Rattle.gr_prop.proofs.Arranging.{attach-undone}
use Rattle.gr_prop.proofs.additions.attach_both.Goals as goal

pub returns-in-Err-clause-err : goal.returns-in-Err-clause-err
returns-in-Err-clause-err c =
    let ws = c.args.watches.now in
    let now : c.attach-2.new.self ≡ _ = c.in-Err.ensures.err ∙ c.in_ok-attach.ensures.ok in
    c.put.ensures
    ∙ (λ i. with_list (c.take-list.ensures.rest i) c.args.first
    ((c.truncate.ensures.items ∙ ap (take (length c.list-kept.result.now)) c.take-list.ensures.list) i))
    ∙ ap (λ w. with_list (with_list w c.args.first []) c.args.first
    (take (length c.list-kept.result.now) (list_of w c.args.first))) now
    ∙ attach-undone ws c.args.first _ (length c.list-kept.result.now) c.list-kept.ensures.lists c.requires.known
    (ap length c.list-kept.ensures.list)
