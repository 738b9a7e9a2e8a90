use Rattle.std.proofs.Common.{◌-◌, ℕ, slice_index_or, ◌∷◌, List, length, take, drop, sym, subst}
use Rattle.std.proofs.lemmas.List.{get_or_default}
use Rattle.gr_strengthen.specs.LettingGo.{IsLettingGo}
use Rattle.gr_strengthen.proofs.Rests.{split-first, no-more}
use Rattle.gr_strengthen.proofs.Frees.{go-begins, go-on}
use Rattle.gr_strengthen.proofs.letting_go.let_go.Goals as goal

pub ids-init : goal.ids-init
ids-init c =
    subst (λ gone. IsLettingGo c.args.base.now c.args.base.now c.args.last gone c.args.ids.now) (sym c.new-gone.ensures)
    (go-begins c.args.base.now c.args.last c.args.ids.now c.requires.rising)

pub ids-preserved : goal.ids-preserved
ids-preserved c =
    let rest = c.ids.rest.now in
    let tail : List ℕ = take (length rest - 1) (drop 1 rest) in
    let id = slice_index_or rest 0 0 in
    let going : IsLettingGo c.args.base.now c.ids.base c.args.last c.ids.gone (id ∷ tail) =
    subst (IsLettingGo c.args.base.now c.ids.base c.args.last c.ids.gone)
    (split-first rest id c.in-len1-up.len_at_least (get_or_default rest 0 0 id c.in-len1-up.len_at_least))
    c.ids.invariant in
    go-on c.args.base.now c.ids.base c.let_go_one.new.base c.args.last id c.ids.gone c.let_go_one.new.gone tail
    c.requires.unique going c.in_ok-let_go_one.ensures

pub returns : goal.returns
returns c =
    subst (IsLettingGo c.args.base.now c.ids.base c.args.last c.ids.gone)
    (no-more c.ids.rest.now c.in_default.len_below) c.ids.invariant
