use Rattle.std.proofs.Common.{◌<◌, ◌≤◌, ◌++◌, ◌∷◌, [], take, length, get_or, sym, ap, ◌∙◌, subst, arith, AllPairs, Contains}
use Rattle.std.proofs.lemmas.List.{take_all}
use Rattle.gr_logic.specs.declared.places.Place.{Place}
use Rattle.gr_import.specs.Forgetting.{AreRanks}
use Rattle.gr_import.proofs.Ranking.{no-ranks, ranks-stay, ranks-grow, all-ranked, below-next, next-ranks}
use Rattle.gr_import.proofs.forgetting.candidates.Goals as goal
use Rattle.gr_import.proofs.forgetting.candidates.Goals.{in-Some+in_ok-push, in_default}

pub loop-id-init : goal.loop-id-init
loop-id-init c =
    subst (AreRanks c.args.base.now.clauses c.args.first_learnt []) (sym c.new-ranks.ensures.items)
    (no-ranks c.args.base.now.clauses c.args.first_learnt)

pub loop-id-preserved : goal.loop-id-preserved
loop-id-preserved c =
    let ids = c.all-id-items.result.now in
    let i = c.loop-id.id-index in
    let within : i < length ids = omega (arith, c.loop-id-test.true, c.loop-id.auto.id-index-end) in
    let rising : AllPairs (λ a b. a < b) ids =
    subst (AllPairs (λ a b. a < b)) (sym c.all-id-items.ensures) c.in_ok-ids.ensures.rising in
    next-ranks c.args.base.now.clauses c.args.first_learnt ids i c.match-rank_of.ranks.items within
    (elim c.match-rank_of.branch [
      | in-Some+in_ok-push w ↦
          subst (AreRanks c.args.base.now.clauses c.args.first_learnt (take i ids ++ get_or ids i 0 ∷ []))
          (sym (ap (λ v. v.items) w.ranks-is ∙ w.in_ok-push.ensures.items))
          (ranks-grow c.args.base.now.clauses c.args.first_learnt (take i ids) c.loop-id.ranks.items
          c.loop-id.invariant (get_or ids i 0) w.in-Some.rank w.in-Some.ensures.id w.in-Some.ensures.some
          w.in-Some.ensures.one (below-next ids i 0 rising within))
      | in_default w ↦
          subst (AreRanks c.args.base.now.clauses c.args.first_learnt (take i ids ++ get_or ids i 0 ∷ []))
          (sym (ap (λ v. v.items) w.ranks-is))
          (ranks-stay c.args.base.now.clauses c.args.first_learnt (take i ids) c.loop-id.ranks.items
          c.loop-id.invariant (get_or ids i 0) w.in_default.ensures.none)
    ])

pub returns : goal.returns
returns c =
    let ids = c.all-id-items.result.now in
    let past : length ids ≤ c.loop-id.id-index =
    omega (arith, c.loop-id-test.false, c.loop-id.auto.id-index-end) in
    all-ranked c.args.base.now.clauses c.args.first_learnt ids c.loop-id.ranks.items
    (subst (λ xs. AreRanks c.args.base.now.clauses c.args.first_learnt xs c.loop-id.ranks.items)
    (take_all c.loop-id.id-index ids past) c.loop-id.invariant)
    (λ r x. subst (λ xs. Contains xs r.id) (sym c.all-id-items.ensures)
    ((c.in_ok-ids.ensures.each r.id).1
    (let place : Place = record { 0 = x.place } in (place, (x.clause, x.there, sym x.id)))))
