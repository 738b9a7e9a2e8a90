-- what an actor holds by what it has added, and may let go
use Rattle.std.proofs.Common.{◌≡◌, ◌≢◌, ◌≤◌, ℕ, Bool, true, not, nat_eq, if◌then◌else◌, List, [], ◌∷◌, ◌++◌}
use Rattle.std.proofs.Common.{Some, None, option_to_list, sym, ap, ◌∙◌}
use Rattle.std.proofs.Common.{subst, arith}
use Rattle.std.specs.Prelude.{IsTrue}
use Rattle.std.specs.List.{filter}
use Rattle.std.proofs.lemmas.List.Elements.{All-nil, All-cons}
use mathlib.Core.List.{IsPrefix}
use Rattle.gr_logic.specs.Formulas.{Cnf}
use Rattle.gr_logic.specs.Literals.{Literal}
use Rattle.gr_diary.specs.declared.entries.Entry.{Entry}
use Rattle.gr_diary.specs.declared.entries.Entry.TheVariants.{Learn, Forget}
use Rattle.gr_diary.specs.States.{State, has, initial_state}
use Rattle.gr_diary.specs.Entries.{actor_of}
use Rattle.gr_diary.specs.Steps.{after, dropped, gained}
use Rattle.gr_diary.specs.Histories.{IsLegal, IsEnabled, entries_of, part_after, state_of}
use Rattle.gr_diary.specs.ExampleRuns.{skips}
use Rattle.gr_diary.specs.Examples.{plus}
use Rattle.gr_diary.proofs.Among.{same-number, or-first, or-second, among-append}
use Rattle.gr_diary.proofs.Left.{all-kept, begins-kept}
use Rattle.gr_diary.proofs.Own.{state-append}
use Rattle.gr_diary.proofs.SkippingRun.{skipping-run-is-legal}
use Rattle.gr_seat.specs.Handles.{Handle, Enables, HasSeenLegal}
use Rattle.gr_seat.specs.Turns.{IsSameSeat, TakesTurn, Makes}
use Rattle.gr_seat.proofs.Later.{enabled_later}

-- the clause `1 2 3` may be offered first
pub three_first : (h : Handle) → h.formula ≡ skips → h.seen ≡ []
    → Enables h (Learn (plus 1 ∷ plus 2 ∷ plus 3 ∷ []) (2 ∷ 3 ∷ []) 2 true)
three_first h formula first =
    subst
    (λ (k : Cnf × List Entry).
    IsEnabled k.0 h.reducers h.capacity k.1 (Learn (plus 1 ∷ plus 2 ∷ plus 3 ∷ []) (2 ∷ 3 ∷ []) 2 true))
    (λ i. (sym formula i, sym first i)) skipping-run-is-legal.0.0.able

-- the state after a seat's entry
pub state_then : (s t : Handle) (e : Entry) (Told : State → Type 0) → (makes : Makes s t e Told)
    → state_of t.formula t.reducers t.capacity t.seen
    ≡ after t.formula t.reducers t.capacity (state_of t.formula t.reducers t.capacity makes.before) e
state_then s t e Told makes =
    ap (state_of t.formula t.reducers t.capacity) makes.ends
    ∙ state-append t.formula t.reducers t.capacity makes.before (e ∷ []) (initial_state t.formula)

-- an actor may let an id go that it holds and has not taken
pub may_let_go : (f : Cnf) (reducers capacity : ℕ) (d : List Entry) (actor id : ℕ) → actor ≤ reducers
    → IsTrue (has id (part_after f reducers capacity d actor).held)
    → (part_after f reducers capacity d actor).taken ≢ Some id
    → IsEnabled f reducers capacity d (Forget actor (id ∷ []))
may_let_go f reducers capacity d actor id within held free = (
  within,
  (λ e. cc e),
  (omega arith, tt),
  All-cons Held id [] held (All-nil Held),
  All-cons Free id [] free (All-nil Free),
)
  where
    Held : ℕ → Type 0
    Held i = IsTrue (has i (part_after f reducers capacity d actor).held)

    Free : ℕ → Type 0
    Free i = (part_after f reducers capacity d actor).taken ≢ Some i

pub none_taken : (id : ℕ) → None ≢ Some id
none_taken id e = cc e

-- where a seat's entry brings its actor an id, and the actor has taken none, it may let that one go
pub gained_may_go : (s t : Handle) (e : Entry) (id : ℕ) (Told : State → Type 0) → TakesTurn s t → Makes s t e Told
    → ((x : State) → Told x → gained x e ≡ Some id) → actor_of e ≤ t.reducers
    → (state_of t.formula t.reducers t.capacity t.seen).taken (actor_of e) ≡ None
    → Enables t (Forget (actor_of e) (id ∷ []))
gained_may_go s t e id Told turn makes brings within idle =
    may_let_go t.formula t.reducers t.capacity t.seen actor id within held (λ taken. none_taken id (sym idle ∙ taken))
  where
    actor : ℕ
    actor = actor_of e

    begun : State
    begun = state_of t.formula t.reducers t.capacity makes.before

    brought : gained begun e ≡ Some id
    brought =
        let same = turn.sees.same in
        brings begun (subst (λ (k : Cnf × ℕ × ℕ). Told (state_of k.0 k.1 k.2 makes.before))
        (λ i. (sym same.formula i, sym same.reducers i, sym same.capacity i)) makes.tells)

    earlier : List ℕ
    earlier = filter (λ q. not (has q (dropped begun e))) (begun.held actor)

    held : has id ((state_of t.formula t.reducers t.capacity t.seen).held actor) ≡ true
    held = ap (λ (x : State). has id (x.held actor)) (state_then s t e Told makes)
        ∙ ap (λ b. has id (if b then earlier ++ option_to_list (gained begun e) else begun.held actor))
        (same-number actor)
        ∙ ap (λ new. has id (earlier ++ option_to_list new)) brought ∙ among-append (λ q. q) id earlier (id ∷ [])
        ∙ or-second (has id earlier) (has id (id ∷ [])) (or-first (nat_eq id id) (has id []) (same-number id))

-- the searching thread may let the clause go that it has just learnt
pub learnt_may_go : (s t : Handle) (c : List Literal) (hints : List ℕ) (lbd id : ℕ) (offered : Bool) → TakesTurn s t
    → Makes s t (Learn c hints lbd offered) (λ (x : State). id ≡ x.next) → Enables t (Forget 0 (id ∷ []))
learnt_may_go s t c hints lbd id offered turn makes =
    gained_may_go s t (Learn c hints lbd offered) id (λ (x : State). id ≡ x.next) turn makes
    (λ x is. ap Some (sym is)) (omega arith)
    (all-kept t.formula t.reducers t.capacity t.seen (initial_state t.formula) (begins-kept t.formula t.reducers)
    turn.sees.legal).order.idle

-- and it still may once its seat has seen more, but no more of its own
pub may_still_go : (s t : Handle) (ids : List ℕ) → s.actor ≡ 0 → IsSameSeat s t → HasSeenLegal s → HasSeenLegal t
    → IsPrefix s.seen t.seen → entries_of t.seen t.actor ≡ entries_of s.seen s.actor → Enables s (Forget 0 ids)
    → Enables t (Forget 0 ids)
may_still_go s t ids first same legal legal' begins own able =
    enabled_later t.formula t.reducers t.capacity s.seen t.seen (Forget 0 ids)
    (to (λ f n w. IsLegal f n w s.seen) legal) legal' begins
    (ap (entries_of s.seen) (sym first) ∙ sym own ∙ ap (entries_of t.seen) (same.actor ∙ first))
    (to (λ f n w. IsEnabled f n w s.seen (Forget 0 ids)) able)
  where
    to : (A : Cnf → ℕ → ℕ → Type 0) → A s.formula s.reducers s.capacity → A t.formula t.reducers t.capacity
    to A a = subst (λ (k : Cnf × ℕ × ℕ). A k.0 k.1 k.2)
        (λ i. (sym same.formula i, sym same.reducers i, sym same.capacity i)) a
