-- one more entry: what stays of the table, and what is to be shown of any call
use Rattle.std.proofs.Common.{◌≡◌, ℕ, Bool, true, false, not, ◌&&◌, ◌||◌, List, [], ◌∷◌, ◌++◌, map, All, refl, sym, ap, ◌∙◌, subst, nat_eq, if◌then◌else◌, option_to_list, filter}
use Rattle.std.specs.FinMap as map
use Rattle.std.specs.FinSet as set
use Rattle.std.proofs.lemmas.Bool.{eqb-true}
use Rattle.std.proofs.lemmas.List.Elements.{All-nil, All-cons, All-head, All-tail}
use Rattle.std.proofs.lemmas.Map.Views.{any-filter_same}
use Rattle.gr_hold.specs.declared.holds.Holder.{Holder}
use Rattle.gr_hold.specs.declared.holds.Holder.TheVariants.{Actor, Work, Result}
use Rattle.gr_logic.specs.Formulas.{Cnf}
use Rattle.gr_diary.specs.declared.entries.Entry.{Entry}
use Rattle.gr_diary.specs.Diaries.{Journal}
use Rattle.gr_diary.specs.Entries.{actor_of}
use Rattle.gr_diary.specs.States.{State, Outcome, has, in_work, in_results, has_holder}
use Rattle.gr_diary.specs.Steps.{dropped, gained, held_after, results_after, moved, left_ids, after}
use Rattle.gr_diary.specs.Rules.{Allowed, IsReady}
use Rattle.gr_diary.specs.Invariant.{IsInOrder, IsKept}
use Rattle.gr_diary.specs.Histories.{IsLegal, state_of, lefts_of}
use Rattle.gr_diary.proofs.Among.{or-first, or-second, same-number, among-append}
use Rattle.gr_diary.proofs.Moved.{in-order}
use Rattle.gr_diary.proofs.Changes.{changed}
use Rattle.gr_diary.proofs.Left.{all-kept, begins-kept, held-stays, left-free, work-holder, results-holder}
use Rattle.gr_diary.proofs.Ends.{histories-grow}
use Rattle.gr_bench.specs.declared.offers.Pending.{Pending}
use Rattle.gr_bench.specs.Exchanges.{Exchange, IsGrown, IsOpenAt, IsEnabledAt, Tells, state_at}
use Rattle.gr_bench.specs.Tables.{Table}
use Rattle.gr_bench.specs.Mirrors.{Mirrors, IsLiveResult, outcome_of, holds_in}
use Rattle.gr_bench.specs.Kept.{IsInStep}

-- what is pushed stands behind what was there
pub behind : {X : Type 0} {before same all : List X} (x : X) → all ≡ same ++ x ∷ [] → same ≡ before
    → all ≡ before ++ x ∷ []
behind x pushed is = pushed ∙ ap (λ z. z ++ x ∷ []) is

-- also where it is named in another way
pub behind-as : {X : Type 0} {before same all : List X} {x y : X} → all ≡ same ++ y ∷ [] → same ≡ before → y ≡ x
    → all ≡ before ++ x ∷ []
behind-as pushed is named = pushed ∙ (λ i. is i ++ named i ∷ [])

-- the state after a legal history keeps the invariant
pub state-kept : (f : Cnf) (reducers capacity : ℕ) (d : List Entry) → IsLegal f reducers capacity d
    → IsKept f reducers (state_of f reducers capacity d)
state-kept f reducers capacity d legal =
    all-kept f reducers capacity d (Rattle.gr_diary.specs.States.initial_state f) (begins-kept f reducers) legal

module _ (f : Cnf) (reducers capacity : ℕ) (s : State) (e : Entry) (k : IsKept f reducers s)
    (ok : Allowed f reducers s e) where
  -- ids and lists are in order before ids leave
  pub now : IsInOrder f reducers (moved capacity s e)
  now = in-order f reducers capacity s k.order e (changed f reducers capacity s k.order e ok)

  -- what has a holder stays
  pub stays : (q : ℕ) → has_holder reducers (moved capacity s e) q ≡ true
      → map.get (after f reducers capacity s e).live q ≡ map.get (moved capacity s e).live q
  stays q there =
      held-stays f reducers (moved capacity s e) now (left_ids f reducers capacity s e)
      (λ id out. (left-free f reducers capacity s e id out).1) q there

  -- the clauses of results stay when ids leave
  results-stay : (rs : List Pending) → All (IsLiveResult (moved capacity s e)) rs
      → ((q : ℕ) → in_results q (map outcome_of rs) ≡ true → in_results q (results_after s e) ≡ true)
      → All (IsLiveResult (after f reducers capacity s e)) rs
  results-stay [] live is = All-nil (IsLiveResult (after f reducers capacity s e))
  results-stay (r ∷ rs) live is =
      let here = or-first (nat_eq r.id r.id) (in_results r.id (map outcome_of rs)) (same-number r.id) in
      All-cons (IsLiveResult (after f reducers capacity s e)) r rs
      (stays r.id (results-holder f reducers (moved capacity s e) now r.id (is r.id here))
      ∙ All-head (IsLiveResult (moved capacity s e)) r rs live)
      (results-stay rs (All-tail (IsLiveResult (moved capacity s e)) r rs live)
      (λ q there. is q (or-second (nat_eq q r.id) (in_results q (map outcome_of rs)) there)))

  -- a table that is right before ids leave is right afterwards
  pub settled : (t : Table) → Mirrors capacity (moved capacity s e) t
      → Mirrors capacity (after f reducers capacity s e) t
  settled t m = record {
    next = m.next;
    closed = m.closed;
    taken = m.taken;
    work = m.work;
    results = m.results;
    holders = holds m.holders;
    offered = λ id there. m.offered id there
        ∙ sym (stays id (work-holder f reducers (moved capacity s e) now id there));
    live = results-stay t.results m.live (λ q there. subst (λ z. in_results q z ≡ true) m.results there);
  }
    where
      holds : ((id : ℕ) (by : Holder) → set.contains t.holders (id, by) ≡ holds_in (moved capacity s e) id by)
          → (id : ℕ) (by : Holder) → set.contains t.holders (id, by)
          ≡ holds_in (after f reducers capacity s e) id by
      holds each id Work = each id Work
      holds each id Result = each id Result
      holds each id (Actor a) = each id (Actor a)

-- what is held by the entry's actor then, and by others
pub held-now : (s : State) (e : Entry) (a q : ℕ)
    → has q (held_after s e a)
    ≡ (if nat_eq a (actor_of e)
    then ((not (has q (dropped s e)) && has q (s.held a)) || has q (option_to_list (gained s e)))
    else has q (s.held a))
held-now s e a q = cases (nat_eq a (actor_of e))
  where
    cases : (b : Bool)
        → has q (if b
        then filter (λ id. not (has id (dropped s e))) (s.held a) ++ option_to_list (gained s e)
        else s.held a)
        ≡ (if b
        then ((not (has q (dropped s e)) && has q (s.held a)) || has q (option_to_list (gained s e)))
        else has q (s.held a))
    cases true =
        among-append (λ x. x) q (filter (λ id. not (has id (dropped s e))) (s.held a)) (option_to_list (gained s e))
        ∙ ap (λ b. b || has q (option_to_list (gained s e)))
        (any-filter_same (nat_eq q) (λ id. not (has id (dropped s e))) (not (has q (dropped s e)))
        (λ id is. ap (λ z. not (has z (dropped s e))) (sym (eqb-true q id is))) (s.held a))
    cases false = refl

-- an entry that may come, with what leaves at it
pub pushed : (f : Cnf) (reducers capacity : ℕ) (diary : Journal) (t : Table) → IsInStep f reducers capacity diary t
    → (e : Entry) (gone : List ℕ) (d : Journal) (new : Table)
    → Allowed f reducers (state_of f reducers capacity diary.entries) e
    → gone ≡ left_ids f reducers capacity (state_of f reducers capacity diary.entries) e
    → Mirrors capacity (moved capacity (state_of f reducers capacity diary.entries) e) new
    → d.first ≡ diary.first → d.entries ≡ diary.entries ++ e ∷ [] → d.left ≡ diary.left ++ gone ∷ []
    → (new.closed ≡ false → d.has_room ≡ true)
    → IsInStep f reducers capacity d new
pushed f reducers capacity diary t step e gone d new ok gone_is mirrors first entries left room =
    let grows = histories-grow f reducers capacity diary.entries e in record {
      few = step.few;
      vars = step.vars;
      tells = record {
        legal = subst (IsLegal f reducers capacity) (sym entries) (grows.0.1 (step.tells.legal, ok));
        first = first ∙ step.tells.first;
        left = left ∙ (λ i. step.tells.left i ++ gone_is i ∷ []) ∙ sym grows.3
            ∙ ap (lefts_of f reducers capacity) (sym entries);
      };
      mirrors = subst (λ z. Mirrors capacity z new) (sym (ap (state_of f reducers capacity) entries ∙ grows.1))
          (settled f reducers capacity (state_of f reducers capacity diary.entries) e
          (state-kept f reducers capacity diary.entries step.tells.legal) ok new mirrors);
      room = room;
    }

module _ (x : Exchange) (f : Cnf) (reducers capacity : ℕ) (diary : Journal)
    (view : record { formula = f; reducers = reducers; capacity = capacity; diary = diary } ≡ x) where
  -- the history is open, seen from inside
  pub still-open : IsOpenAt x → (state_of f reducers capacity diary.entries).closed ≡ false
  still-open is = subst IsOpenAt (sym view) is

  -- an entry that is able and ready may come
  pub may : (e : Entry) → IsOpenAt x → IsEnabledAt x e → IsReady (state_of f reducers capacity diary.entries) e
      → Allowed f reducers (state_of f reducers capacity diary.entries) e
  may e still able ready = record {
    still_open = still-open still;
    ready = ready;
    able = subst (λ y. IsEnabledAt y e) (sym view) able;
  }

  -- a history that grew by an entry that may come
  pub grown : Tells f reducers capacity diary → IsOpenAt x → (e : Entry) → IsEnabledAt x e → IsReady (state_at x) e
      → (d : Journal) → d.entries ≡ diary.entries ++ e ∷ []
      → IsGrown x (record { formula = f; reducers = reducers; capacity = capacity; diary = d }) e
  grown tells still e able ready d entries = record {
    same = record {
      formula = ap (λ (y : Exchange). y.formula) view;
      reducers = ap (λ (y : Exchange). y.reducers) view;
      capacity = ap (λ (y : Exchange). y.capacity) view;
    };
    entries = entries ∙ ap (λ (y : Exchange). y.diary.entries ++ e ∷ []) view;
    legal = subst (IsLegal f reducers capacity) (sym entries)
        ((histories-grow f reducers capacity diary.entries e).0.1
        (tells.legal, may e still able (subst (λ (y : Exchange). IsReady (state_at y) e) (sym view) ready)));
  }

-- nothing that is said of the diary or of the table changed
pub unchanged : (f : Cnf) (reducers capacity : ℕ) (diary : Journal) (t : Table) → IsInStep f reducers capacity diary t
    → (d : Journal) (new : Table) → d.first ≡ diary.first → d.entries ≡ diary.entries → d.left ≡ diary.left
    → d.has_room ≡ diary.has_room → new ≡ t → IsInStep f reducers capacity d new
unchanged f reducers capacity diary t step d new first entries left room is =
    subst (IsInStep f reducers capacity d) (sym is) (record {
      few = step.few;
      vars = step.vars;
      tells = record {
        legal = subst (IsLegal f reducers capacity) (sym entries) step.tells.legal;
        first = first ∙ step.tells.first;
        left = left ∙ step.tells.left ∙ ap (lefts_of f reducers capacity) (sym entries);
      };
      mirrors = subst (λ z. Mirrors capacity (state_of f reducers capacity z) t) (sym entries) step.mirrors;
      room = λ still. room ∙ step.room still;
    })
