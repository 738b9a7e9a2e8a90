-- items by arrival and by rank
use Rattle.std.proofs.Common.{◌≡◌, ℕ, Bool, true, false, cond, Option, Some, None, refl, sym, ap, ◌∙◌, arith, nat_eq}
use Rattle.std.specs.Prelude.{unwrap_or}
use Rattle.std.specs.declared.cmp.Ordering.{Ordering}
use Rattle.std.specs.declared.cmp.Ordering.TheVariants.{Less, Equal, Greater}
use Rattle.std.specs.Ordering.{nat_cmp, eq_by_cmp, ordering_then, is_eq}
use Rattle.std.specs.Cmp.{IsTotalOrder, nat_cmp_total, then_total, on_total, back_total, tied_itself, unsigned_tied}
use Rattle.std.specs.FinMap.{nat_cmp-IsAntisymmetric}
use Rattle.std.proofs.lemmas.Bool.Decides.{nat_tests}
use Rattle.std.proofs.lemmas.Map.Views.{tells_apart}
use Rattle.gr_logic.specs.declared.items.Item.{Item}
use Rattle.gr_work.specs.declared.ranks.Rank.{Rank}
use Rattle.gr_work.specs.Ranks.{rank_of, rank_cmp, IsRankingBy}

pub rank_cmp_total : IsTotalOrder rank_cmp
rank_cmp_total =
    then_total (on_total (λ (r : Rank). r.lbd) nat_cmp_total)
    (then_total (on_total (λ (r : Rank). r.len) nat_cmp_total)
    (back_total (on_total (λ (r : Rank). r.arrival) nat_cmp_total)))

-- two comparisons in turn tie where both tie
both_tie : (x y : Ordering) → ordering_then x y ≡ Equal → (x ≡ Equal) × (y ≡ Equal)
both_tie Less y e = absurd (let z = ap is_eq e in cc)
both_tie Equal y e = (refl, e)
both_tie Greater y e = absurd (let z = ap is_eq e in cc)

-- only a rank ties with itself
pub same_rank : (r s : Rank) → rank_cmp r s ≡ Equal → r ≡ s
same_rank r s e =
    let lbds = both_tie (nat_cmp r.lbd s.lbd) _ e in
    let lens = both_tie (nat_cmp r.len s.len) _ lbds.1 in
    λ i. record {
      lbd = nat_cmp-IsAntisymmetric r.lbd s.lbd lbds.0 i;
      len = nat_cmp-IsAntisymmetric r.len s.len lens.0 i;
      arrival = sym (nat_cmp-IsAntisymmetric s.arrival r.arrival lens.1) i;
    }

same_item : (x y : Item) → Some x ≡ Some y → x ≡ y
same_item x y e = ap (λ o. unwrap_or o x) e

-- an item is put in, or taken out
module _ (f new_f : ℕ → Option Item) (g new_g : Rank → Option Item) (a : ℕ) (item : Item) (is : IsRankingBy f g) where
  itself : eq_by_cmp rank_cmp (rank_of a item) (rank_of a item) ≡ true
  itself = ap is_eq (tied_itself rank_cmp_total (rank_of a item))

  apart : (b : ℕ) (x : Item) → eq_by_cmp nat_cmp a b ≡ false
      → eq_by_cmp rank_cmp (rank_of a item) (rank_of b x) ≡ false
  apart b x other = cases (eq_by_cmp rank_cmp (rank_of a item) (rank_of b x)) refl
    where
      cases : (t : Bool) → eq_by_cmp rank_cmp (rank_of a item) (rank_of b x) ≡ t → t ≡ false
      cases false e = refl
      cases true e =
          let same : a ≡ b = ap (λ (r : Rank). r.arrival) (tells_apart same_rank (rank_of a item) (rank_of b x) e) in
          let tied : nat_eq a b ≡ false = sym (unsigned_tied a b) ∙ other in
          absurd (let z : nat_eq a a ≡ true = grind (arith, nat_tests) in grind (arith, nat_tests))

  pub put : f a ≡ None → ((q : ℕ) → new_f q ≡ cond (eq_by_cmp nat_cmp a q) (Some item) (f q))
      → ((r : Rank) → new_g r ≡ cond (eq_by_cmp rank_cmp (rank_of a item) r) (Some item) (g r))
      → IsRankingBy new_f new_g
  put absent fs gs = record {
    ranked = λ b x e. ranked b x (eq_by_cmp nat_cmp a b) refl (sym (fs b) ∙ e);
    arrived = λ r x e. arrived r x (eq_by_cmp rank_cmp (rank_of a item) r) refl (sym (gs r) ∙ e);
  }
    where
      here : new_g (rank_of a item) ≡ Some item
      here = gs (rank_of a item) ∙ ap (λ t. cond t (Some item) (g (rank_of a item))) itself

      there : new_f a ≡ Some item
      there = fs a ∙ ap (λ t. cond t (Some item) (f a)) (ap is_eq (tied_itself nat_cmp_total a))

      ranked : (b : ℕ) (x : Item) (t : Bool) → eq_by_cmp nat_cmp a b ≡ t → cond t (Some item) (f b) ≡ Some x
          → new_g (rank_of b x) ≡ Some x
      ranked b x true at e =
          let same : a ≡ b = tells_apart nat_cmp-IsAntisymmetric a b at in
          (λ i. new_g (rank_of (sym same i) (sym (same_item item x e) i))) ∙ here ∙ e
      ranked b x false at e =
          gs (rank_of b x) ∙ ap (λ t. cond t (Some item) (g (rank_of b x))) (apart b x at) ∙ is.ranked b x e

      stays : (b : ℕ) (x : Item) (t : Bool) → eq_by_cmp nat_cmp a b ≡ t → f b ≡ Some x
          → cond t (Some item) (f b) ≡ Some x
      stays b x false at e = e
      stays b x true at e =
          let same : a ≡ b = tells_apart nat_cmp-IsAntisymmetric a b at in
          absurd (let none : None ≡ Some x = sym absent ∙ ap f same ∙ e in cc)

      arrived : (r : Rank) (x : Item) (t : Bool) → eq_by_cmp rank_cmp (rank_of a item) r ≡ t
          → cond t (Some item) (g r) ≡ Some x → (r ≡ rank_of r.arrival x) × (new_f r.arrival ≡ Some x)
      arrived r x true at e =
          let same : rank_of a item ≡ r = tells_apart same_rank (rank_of a item) r at in
          let one : item ≡ x = same_item item x e in (
            sym same ∙ (λ i. rank_of (ap (λ (r : Rank). r.arrival) same i) (one i)),
            ap new_f (sym (ap (λ (r : Rank). r.arrival) same)) ∙ there ∙ e,
          )
      arrived r x false at e =
          let known = is.arrived r x e in
          (known.0, fs r.arrival ∙ stays r.arrival x (eq_by_cmp nat_cmp a r.arrival) refl known.1)

  pub removed : f a ≡ Some item → ((q : ℕ) → new_f q ≡ cond (eq_by_cmp nat_cmp a q) None (f q))
      → ((r : Rank) → new_g r ≡ cond (eq_by_cmp rank_cmp (rank_of a item) r) None (g r))
      → IsRankingBy new_f new_g
  removed there fs gs = record {
    ranked = λ b x e. ranked b x (eq_by_cmp nat_cmp a b) refl (sym (fs b) ∙ e);
    arrived = λ r x e. arrived r x (eq_by_cmp rank_cmp (rank_of a item) r) refl (sym (gs r) ∙ e);
  }
    where
      ranked : (b : ℕ) (x : Item) (t : Bool) → eq_by_cmp nat_cmp a b ≡ t → cond t None (f b) ≡ Some x
          → new_g (rank_of b x) ≡ Some x
      ranked b x true at e = absurd (let none : None ≡ Some x = e in cc)
      ranked b x false at e =
          gs (rank_of b x) ∙ ap (λ t. cond t None (g (rank_of b x))) (apart b x at) ∙ is.ranked b x e

      stays : (r : Rank) (x : Item) (t : Bool) → eq_by_cmp nat_cmp a r.arrival ≡ t
          → eq_by_cmp rank_cmp (rank_of a item) r ≡ false → r ≡ rank_of r.arrival x → f r.arrival ≡ Some x
          → cond t None (f r.arrival) ≡ Some x
      stays r x false at other is e = e
      stays r x true at other is e =
          let same : a ≡ r.arrival = tells_apart nat_cmp-IsAntisymmetric a r.arrival at in
          let one : item ≡ x = same_item item x (sym there ∙ ap f same ∙ e) in
          let all : rank_of a item ≡ r = (λ i. rank_of (same i) (one i)) ∙ sym is in
          absurd (let t : true ≡ false = sym itself ∙ ap (eq_by_cmp rank_cmp (rank_of a item)) all ∙ other in cc)

      arrived : (r : Rank) (x : Item) (t : Bool) → eq_by_cmp rank_cmp (rank_of a item) r ≡ t
          → cond t None (g r) ≡ Some x → (r ≡ rank_of r.arrival x) × (new_f r.arrival ≡ Some x)
      arrived r x true at e = absurd (let none : None ≡ Some x = e in cc)
      arrived r x false at e =
          let known = is.arrived r x e in
          (known.0, fs r.arrival ∙ stays r x (eq_by_cmp nat_cmp a r.arrival) refl at known.0 known.1)
