-- one list gets the watch, and the other loses it
use Rattle.std.proofs.Common.{◌≡◌, ◌<◌, [], ◌∷◌, ◌++◌, get_or, ap, ◌∙◌, arith, List}
use Rattle.std.proofs.lemmas.List.{get_or_default}
use Rattle.gr_watch.specs.declared.lists.Watch.{Watch}
use Rattle.gr_watch.specs.WatchLists.{WatchLists, list_of, with_list, taken_out, watch_at, no_watch}
use Rattle.gr_watch.proofs.Edits.{read, written, other_list, with_both}
use Rattle.gr_watch.proofs.lists.Watches.move_to.Goals as goal

-- the list that loses the watch is still known
known : (c : goal.After-self-1) → c.args.from.index < c.attach.new.self.vars
known c = omega (arith, c.requires.known, ap (λ (w : WatchLists). w.vars) c.in_ok-attach.ensures.ok)

-- the watch that was read is that at the index
watch : (c : goal.After-self-1) → c.index-list-index.result
    ≡ watch_at (list_of c.args.self.now c.args.from) c.args.index
watch c =
    c.index-list-index.is ∙ ap (λ list. get_or list c.args.index c.index-list-index.result)
    c.list.ensures.list
    ∙ get_or_default (list_of c.args.self.now c.args.from) c.args.index c.index-list-index.result
    no_watch c.requires.in_range

pub returns-clause-ok : goal.returns-clause-ok
returns-clause-ok c =
    let old : WatchLists = c.args.self.now in
    let lost : List Watch = taken_out (list_of old c.args.from) c.args.index in
    let gained : List Watch = list_of old c.args.to ++ c.index-list-index.result ∷ [] in
    written _ _ _ c.attach.new.self c.self.view_is c.self.invariant.0 c.args.from (known c)
    c.code.result c.code.ensures.code _ _
    (c.take_out.ensures ∙ ap (λ list. taken_out list c.args.index)
    (read _ _ _ c.attach.new.self c.self.view_is c.self.invariant.0 c.args.from (known c)
    c.code.result c.code.ensures.code c.index_mut.result.now c.index_mut.ensures.value))
    ∙ ap (λ (w : WatchLists). with_list w c.args.from (taken_out (list_of w c.args.from)
    c.args.index)) c.in_ok-attach.ensures.ok
    ∙ ap (λ list. with_list (with_list old c.args.to gained) c.args.from
    (taken_out list c.args.index)) (other_list old c.args.from c.args.to gained
    c.requires.apart)
    ∙ with_both old c.args.from c.args.to lost gained c.requires.apart
    ∙ ap (λ w. with_list (with_list old c.args.from lost) c.args.to (list_of old c.args.to
    ++ w ∷ [])) (watch c)
