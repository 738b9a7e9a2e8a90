-- the call that takes a result over
use Rattle.std.proofs.Common.{◌≡◌, ℕ, List, [], ◌∷◌, ◌++◌, map, refl, sym, ap, ◌∙◌, subst, filter}
use Rattle.gr_logic.specs.Formulas.{Cnf}
use Rattle.gr_diary.specs.declared.entries.Entry.TheVariants.{Import}
use Rattle.gr_diary.specs.Diaries.{Journal}
use Rattle.gr_diary.specs.States.{State}
use Rattle.gr_diary.specs.Histories.{state_of}
use Rattle.gr_diary.specs.Invariant.{IsKept}
use Rattle.gr_diary.specs.Rules.{Allowed}
use Rattle.gr_bench.specs.declared.offers.Pending.{Pending}
use Rattle.gr_bench.specs.Exchanges.{Exchange, HasResult, IsOpenAt, state_at}
use Rattle.gr_bench.specs.Answers.{IsFirstResult}
use Rattle.gr_bench.specs.Lone.{is_lone}
use Rattle.gr_bench.specs.Tables.{Table, held_old, forgotten_by, taken_over, HoldsEach, FirstIsApart}
use Rattle.gr_bench.specs.Mirrors.{outcome_of}
use Rattle.gr_bench.specs.Kept.{IsInStep}
use Rattle.gr_bench.proofs.Pushed.{state-kept, pushed, still-open}
use Rattle.gr_bench.proofs.TakenOver.{results-are, first-apart, first-live, old-held, taken-over, over-leave}

module _ (x : Exchange) (f : Cnf) (reducers capacity : ℕ) (diary : Journal) (t : Table)
    (view : record { formula = f; reducers = reducers; capacity = capacity; diary = diary } ≡ x)
    (step : IsInStep f reducers capacity diary t) (still : IsOpenAt x) (some : HasResult x) where
  -- the state before
  abbrev s : State
  s = state_of f reducers capacity diary.entries

  -- it keeps the invariant
  kept : IsKept f reducers s
  kept = state-kept f reducers capacity diary.entries step.tells.legal

  -- the entry may come
  ok : Allowed f reducers s Import
  ok = record {
    still_open = still-open x f reducers capacity diary view still;
    ready = subst HasResult (sym view) some;
    able = tt;
  }

  -- the results hold the first result, and the searching thread does not
  pub apart : FirstIsApart t.results t.holders
  apart = cases t.results refl
    where
      cases : (rs : List Pending) → t.results ≡ rs → FirstIsApart t.results t.holders
      cases [] is = absurd (subst HasResult (sym view) some (sym step.mirrors.results ∙ ap (map outcome_of) is))
      cases (first ∷ later) is =
          first-apart f reducers capacity step.few s t kept step.mirrors ok first later is

  module _ (first : Pending) (later : List Pending) (is : t.results ≡ first ∷ later) where
    -- the searching thread holds what it lets go
    pub dropped-held : HoldsEach (taken_over first.id t).holders 0 (held_old t.holders first.old)
    dropped-held = old-held f reducers capacity step.few s t kept step.mirrors ok first later is

    -- the first result is what is answered
    pub first-result : IsFirstResult (state_at x) first.old first.id first.clause
    first-result = subst (λ y. IsFirstResult (state_at y) first.old first.id first.clause) view (record {
      later = map outcome_of later;
      first = results-are f reducers capacity step.few s t kept step.mirrors ok first later is;
      clause = first-live f reducers capacity step.few s t kept step.mirrors ok first later is;
    })

    -- the books are in step after the call
    pub imported-step : (d : Journal) (new : Table) (gone : List ℕ) → d.first ≡ diary.first
        → d.has_room ≡ diary.has_room
        → new ≡ forgotten_by 0 (held_old t.holders first.old) (taken_over first.id t)
        → gone ≡ filter (is_lone t.holders) (held_old t.holders first.old)
        → d.entries ≡ diary.entries ++ Import ∷ [] → d.left ≡ diary.left ++ gone ∷ []
        → IsInStep f reducers capacity d new
    imported-step d new gone same_first room new_is gone_is entries left =
        subst (IsInStep f reducers capacity d) (sym new_is)
        (pushed f reducers capacity diary t step Import gone d
        (forgotten_by 0 (held_old t.holders first.old) (taken_over first.id t)) ok
        (gone_is ∙ over-leave f reducers capacity step.few s t kept step.mirrors ok first later is)
        (taken-over f reducers capacity step.few s t kept step.mirrors ok first later is) same_first entries left
        (λ _. room ∙ step.room (step.mirrors.closed ∙ still-open x f reducers capacity diary view still)))
