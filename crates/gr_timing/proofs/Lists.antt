-- a list that is taken out and put back
use Rattle.std.specs.Prelude.{◌≡◌, List, []}
use Rattle.std.proofs.Common.{ap, ◌∙◌}
use Rattle.std.proofs.lemmas.List.{set-set, set-get_or}
use Rattle.gr_logic.specs.Literals.{Literal}
use Rattle.gr_logic.specs.Codes.{code_of}
use Rattle.gr_watch.specs.WatchLists.{WatchLists, list_of, with_list}
use Rattle.gr_watch.specs.declared.lists.Watch.{Watch}

pub put_back : (old taken : WatchLists) (l : Literal) (list : List Watch)
    → list ≡ list_of old l → taken ≡ with_list old l [] → with_list taken l list ≡ old
put_back old taken l list is left =
    ap (λ z. with_list z l list) left
    ∙ ap (λ ls. record old { lists = ls }) (set-set old.lists (code_of l) [] list)
    ∙ ap (λ z. with_list old l z) is
    ∙ ap (λ ls. record old { lists = ls }) (set-get_or old.lists (code_of l) [])
