-- the call that takes an item
use Rattle.std.proofs.Common.{◌≡◌, ◌≢◌, ℕ, false, true, List, [], ◌∷◌, ◌++◌, Option, Some, option_map, refl, sym, ap, ◌∙◌, subst}
use Rattle.std.specs.FinMap as map
use Rattle.std.specs.FinSet as set
use Rattle.std.specs.Option.{IsSome}
use Rattle.gr_hold.specs.declared.holds.Holder.TheVariants.{Actor, Work}
use Rattle.gr_logic.specs.Literals.{Literal}
use Rattle.gr_logic.specs.Formulas.{Cnf}
use Rattle.gr_logic.specs.WorkLists.{best}
use Rattle.gr_logic.specs.declared.items.Item.{Item}
use Rattle.gr_diary.specs.declared.entries.Entry.TheVariants.{Take}
use Rattle.gr_diary.specs.Diaries.{Journal}
use Rattle.gr_diary.specs.States.{State}
use Rattle.gr_diary.specs.Histories.{state_of}
use Rattle.gr_diary.specs.Invariant.{IsKept}
use Rattle.gr_bench.specs.Exchanges.{Exchange, BestIs, IsOpenAt, IsEnabledAt, state_at}
use Rattle.gr_bench.specs.Answers.{IsBestOffer}
use Rattle.gr_bench.specs.Tables.{Table, given_to}
use Rattle.gr_bench.specs.Kept.{IsInStep}
use Rattle.gr_bench.proofs.Pushed.{state-kept, pushed, still-open, may}
use Rattle.gr_bench.proofs.Ends.{none-leaves}
use Rattle.gr_bench.proofs.GivenItems.{given, is-held, has-clause, is-live, no-reducer}

-- a list with a best item has an item
pub some-work : (items : List Item) (item : Item) → best items ≡ Some item → items ≢ []
some-work [] item is none = absurd (cc)
some-work (x ∷ xs) item is none = absurd (cc)

module _ (x : Exchange) (f : Cnf) (reducers capacity : ℕ) (diary : Journal) (t : Table)
    (view : record { formula = f; reducers = reducers; capacity = capacity; diary = diary } ≡ x)
    (step : IsInStep f reducers capacity diary t) (item : Item) (best_is : BestIs x item) where
  -- the state before
  abbrev s : State
  s = state_of f reducers capacity diary.entries

  -- it keeps the invariant
  kept : IsKept f reducers s
  kept = state-kept f reducers capacity diary.entries step.tells.legal

  -- the item is the best on offer
  best-now : best s.work ≡ Some item
  best-now = subst (λ y. BestIs y item) (sym view) best_is

  -- the work list holds it
  pub item-held : set.contains t.holders (item.id, Work) ≡ true
  item-held = is-held f reducers capacity s t kept step.mirrors item best-now

  -- its clause is among those on offer
  pub item-clause : IsSome (t.offers item.id)
  item-clause = has-clause f reducers capacity s t kept step.mirrors item best-now

  -- the reducer does not hold it
  pub item-free : (actor : ℕ) → IsEnabledAt x (Take actor) → set.contains t.holders (item.id, Actor actor) ≡ false
  item-free actor able =
      no-reducer f reducers capacity s t kept step.mirrors item best-now actor
      (subst (λ y. IsEnabledAt y (Take actor)) (sym view) able).0

  -- its id and its clause are what is answered
  pub best-offer : (c : List Literal) → t.offers item.id ≡ Some c → IsBestOffer (state_at x) item.id c
  best-offer c is = record {
    best = ap (λ (o : Option Item). option_map (λ (i : Item). i.id) o) best_is;
    clause = subst (λ y. map.get (state_at y).live item.id ≡ Some c) view
        (is-live f reducers capacity s t kept step.mirrors item best-now c is);
  }

  -- the books are in step after the call
  pub given-step : IsOpenAt x → (d : Journal) (new : Table) → d.first ≡ diary.first → d.has_room ≡ diary.has_room
      → (actor : ℕ) → IsEnabledAt x (Take actor) → new ≡ given_to actor item.id t
      → d.entries ≡ diary.entries ++ Take actor ∷ [] → d.left ≡ diary.left ++ [] ∷ []
      → IsInStep f reducers capacity d new
  given-step still d new first room actor able is entries left = subst (IsInStep f reducers capacity d) (sym is)
      (let ok = may x f reducers capacity diary view (Take actor) still able (some-work s.work item best-now) in
      pushed f reducers capacity diary t step (Take actor) [] d (given_to actor item.id t) ok
      (none-leaves f reducers capacity s (Take actor) kept ok refl)
      (given f reducers capacity s t kept step.mirrors item best-now actor) first entries left
      (λ _. room ∙ step.room (step.mirrors.closed ∙ still-open x f reducers capacity diary view still)))
