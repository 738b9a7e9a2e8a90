use Rattle.std.proofs.Common.{ap, sym, ◌∙◌, subst, arith, take, map, ◌/◌}
use Rattle.gr_import.specs.Forgetting.{AreWeakest}
use Rattle.gr_import.proofs.Ordering.{weakest-are}
use Rattle.gr_import.proofs.forgetting.weakest.Goals as goal

pub returns : goal.returns
returns c =
    subst (AreWeakest c.args.base.now.clauses c.args.first_learnt) (sym c.from_vec.ensures)
    (weakest-are c.args.base.now.clauses c.args.first_learnt c.in_ok-ranks.ranks.items
    c.sort_unstable.new.self.items c.in_ok-ranks.ensures c.sort_unstable.ensures.permutation c.len-half.result
    c.in_ok-ids.ids.items c.sort_unstable-2.new.self.items c.sort_unstable.ensures.sorted
    (omega (arith, c.len-half.ensures))
    (c.in_ok-ids.ensures ∙ ap (λ xs. map (λ x. x.id) (take (c.len-half.result / 2) xs)) c.as_slice.ensures.value)
    c.sort_unstable-2.ensures.permutation c.sort_unstable-2.ensures.sorted)
