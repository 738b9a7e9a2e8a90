-- what an actor holds
use Rattle.std.proofs.Common.{◌≡◌, ℕ, Bool, true, false, not, ◌&&◌, ◌||◌, List, [], ◌∷◌, ◌++◌, length, None, is_some, refl, sym, ap, ◌∙◌, arith, nat_le, if◌then◌else◌, option_to_list}
use Rattle.std.specs.List.{filter}
use Rattle.std.specs.FinMap as map
use Rattle.std.proofs.lemmas.Bool.Decides.{nat_tests}
use Rattle.gr_logic.specs.Formulas.{Cnf}
use Rattle.gr_logic.specs.Rup.{Live}
use Rattle.gr_diary.specs.declared.entries.Entry.{Entry}
use Rattle.gr_diary.specs.declared.entries.Entry.TheVariants.{Learn, Take, Return, Import, Drained, Forget, Close}
use Rattle.gr_diary.specs.declared.entries.Entry.TheVariants as entry
use Rattle.gr_diary.specs.Entries.{actor_of, addition_of}
use Rattle.gr_diary.specs.States.{State, has, initial_state}
use Rattle.gr_diary.specs.Steps.{dropped, gained, held_after, moved, left_ids, after, live_grown, results_after}
use Rattle.gr_diary.specs.Rules.{cited_by, Allowed}
use Rattle.gr_diary.specs.Invariant.{IsInOrder, IsKept}
use Rattle.gr_diary.specs.Histories.{state_from, state_of, IsLegal, IsLegalFrom}
use Rattle.gr_diary.specs.HoldingLaws.{held_then, HeldClausesChange, PartsShowHeldClauses, AloneThereAreNoResults}
use Rattle.gr_diary.proofs.Among.{same-number, among-append, among-kept, among-filter, among-passes, not-both}
use Rattle.gr_diary.proofs.Moved.{get-grown, in-order}
use Rattle.gr_diary.proofs.Changes.{changed}
use Rattle.gr_diary.proofs.Left.{all-kept, begins-kept, left-free, held-holder, held-stays}
use Rattle.gr_diary.proofs.Own.{legal-parts, state-append}

-- the clauses of the ids that an actor holds
abbrev pub held_in : Cnf → State → ℕ → Live
held_in f s a id = if has id (s.held a) then cited_by f s a id else None

-- where the id is held, what is cited is what is live
pub held-is : (f : Cnf) (s : State) (a id : ℕ)
    → held_in f s a id ≡ (if has id (s.held a) then map.get s.live id else None)
held-is f s a id = pick (has id (s.held a)) (nat_le id (length f.clauses))
  where
    pick : (b low : Bool) → (if b then (if low || b then map.get s.live id else None) else None)
        ≡ (if b then map.get s.live id else None)
    pick true true = refl
    pick true false = refl
    pick false low = refl

has-filter : (test : ℕ → Bool) (id : ℕ) (xs : List ℕ) → has id (filter test xs) ≡ (has id xs && test id)
has-filter test id xs = pick (has id (filter test xs)) refl (has id xs) refl (test id) refl
  where
    pick : (b : Bool) → has id (filter test xs) ≡ b → (c : Bool) → has id xs ≡ c → (t : Bool) → test id ≡ t
        → b ≡ (c && t)
    pick true is true there true passes = refl
    pick true is true there false fails = not-both (test id) (among-passes (λ x. x) test id xs is) fails
    pick true is false out t passes = not-both (has id xs) (among-filter (λ x. x) test id xs is) out
    pick false is true there true passes =
        not-both (has id (filter test xs)) (among-kept (λ x. x) test id xs passes there) is
    pick false is true there false fails = refl
    pick false is false out t passes = refl

-- an entry's actor holds what it held and did not drop, and what it gained
has-after : (s : State) (e : Entry) (id : ℕ) → has id (held_after s e (actor_of e))
    ≡ ((has id (s.held (actor_of e)) && not (has id (dropped s e))) || has id (option_to_list (gained s e)))
has-after s e id =
    ap (λ b. has id (if b then filter (λ id. not (has id (dropped s e))) (s.held (actor_of e))
    ++ option_to_list (gained s e) else s.held (actor_of e))) (same-number (actor_of e))
    ∙ among-append (λ x. x) id (filter (λ id. not (has id (dropped s e))) (s.held (actor_of e)))
    (option_to_list (gained s e))
    ∙ ap (λ b. b || has id (option_to_list (gained s e)))
    (has-filter (λ id. not (has id (dropped s e))) id (s.held (actor_of e)))

held-change : (f : Cnf) (reducers capacity : ℕ) (s : State) (e : Entry) → IsKept f reducers s → Allowed f reducers s e
    → (id : ℕ) → held_in f (after f reducers capacity s e) (actor_of e) id
    ≡ held_then s e (held_in f s (actor_of e)) id
held-change f reducers capacity s e k ok id =
    held-is f (after f reducers capacity s e) (actor_of e) id
    ∙ pick (has id (option_to_list (gained s e))) refl (has id (dropped s e)) refl (has id (s.held (actor_of e))) refl
    ∙ ap (λ c. if has id (option_to_list (gained s e)) then map.get (live_grown s (addition_of e)) id
    else (if has id (dropped s e) then None else c)) (sym (held-is f s (actor_of e) id))
  where
    a : ℕ
    a = actor_of e

    now : IsInOrder f reducers (moved capacity s e)
    now = in-order f reducers capacity s k.order e (changed f reducers capacity s k.order e ok)

    -- what is held then stays in the log
    stays : has id (held_after s e a) ≡ true → map.get (after f reducers capacity s e).live id
        ≡ map.get (live_grown s (addition_of e)) id
    stays there = held-stays f reducers (moved capacity s e) now (left_ids f reducers capacity s e)
        (λ q left. (left-free f reducers capacity s e q left).1) id
        (held-holder f reducers (moved capacity s e) now a id there)

    pick : (g : Bool) → has id (option_to_list (gained s e)) ≡ g → (x : Bool) → has id (dropped s e) ≡ x
        → (h : Bool) → has id (s.held a) ≡ h
        → (if has id (held_after s e a) then map.get (after f reducers capacity s e).live id else None)
        ≡ (if g then map.get (live_grown s (addition_of e)) id
        else (if x then None else (if h then map.get s.live id else None)))
    pick true gains x drops h had = by (sum x h)
      where
        sum : (x h : Bool) → ((h && not x) || true) ≡ true
        sum true true = refl
        sum true false = refl
        sum false true = refl
        sum false false = refl

        by : ((h && not x) || true) ≡ true
            → (if has id (held_after s e a) then map.get (after f reducers capacity s e).live id else None)
            ≡ map.get (live_grown s (addition_of e)) id
        by is =
            let there : has id (held_after s e a) ≡ true = has-after s e id
            ∙ (λ i. (had i && not (drops i)) || gains i) ∙ is in
            rw there (stays there)
    pick false gains true drops true had =
        let out : has id (held_after s e a) ≡ false = has-after s e id ∙ (λ i. (had i && not (drops i)) || gains i) in
        rw out refl
    pick false gains true drops false had =
        let out : has id (held_after s e a) ≡ false = has-after s e id ∙ (λ i. (had i && not (drops i)) || gains i) in
        rw out refl
    pick false gains false drops true had =
        let there : has id (held_after s e a) ≡ true = has-after s e id
        ∙ (λ i. (had i && not (drops i)) || gains i) in
        rw there (stays there ∙ get-grown f reducers s k.order (addition_of e) id (k.order.held a id had).live)
    pick false gains false drops false had =
        let out : has id (held_after s e a) ≡ false = has-after s e id ∙ (λ i. (had i && not (drops i)) || gains i) in
        rw out refl

-- a legal history's state has the invariant
pub state-kept : (f : Cnf) (reducers capacity : ℕ) (d : List Entry) → IsLegal f reducers capacity d
    → IsKept f reducers (state_of f reducers capacity d)
state-kept f reducers capacity d legal =
    all-kept f reducers capacity d (initial_state f) (begins-kept f reducers) legal

pub held-clauses-change : HeldClausesChange
held-clauses-change f reducers capacity d e legal id =
    let parts = legal-parts f reducers capacity d (e ∷ []) (initial_state f) legal in
    ap (λ s. held_in f s (actor_of e) id) (state-append f reducers capacity d (e ∷ []) (initial_state f))
    ∙ held-change f reducers capacity (state_of f reducers capacity d) e
    (state-kept f reducers capacity d parts.0) parts.1.0 id

pub parts-show-held-clauses : PartsShowHeldClauses
parts-show-held-clauses f reducers capacity a d legal = record {
  held = λ id. held id (has id (s.held a)) refl;
  above = λ id there. (k.order.held a id (was-held id there)).above;
  inputs = λ id low. let le : nat_le id (length f.clauses) ≡ true = grind (arith, nat_tests) in
      rw le (k.inputs id low);
  learnt = λ id high. let gt : nat_le id (length f.clauses) ≡ false = grind (arith, nat_tests) in
      learnt id (nat_le id (length f.clauses)) gt (has id (s.held a));
}
  where
    s : State
    s = state_of f reducers capacity d

    k : IsKept f reducers s
    k = state-kept f reducers capacity d legal

    held : (id : ℕ) (b : Bool) → has id (s.held a) ≡ b → has id (s.held a) ≡ is_some (held_in f s a id)
    held id true is = is ∙ sym (k.order.held a id is).live ∙ sym (ap is_some (held-is f s a id
        ∙ ap (λ b. if b then map.get s.live id else None) is))
    held id false is = is ∙ sym (ap is_some (held-is f s a id ∙ ap (λ b. if b then map.get s.live id else None) is))

    was-held : (id : ℕ) → is_some (held_in f s a id) ≡ true → has id (s.held a) ≡ true
    was-held id there = held id (has id (s.held a)) refl ∙ there

    learnt : (id : ℕ) (low : Bool) → low ≡ false → (b : Bool) → (if low || b then map.get s.live id else None)
        ≡ (if b then (if low || b then map.get s.live id else None) else None)
    learnt id true is b = absurd (cc)
    learnt id false is true = refl
    learnt id false is false = refl

-- without reducers no entry brings a result
no-result : (f : Cnf) (capacity : ℕ) (s : State) (e : Entry) → s.results ≡ [] → Allowed f 0 s e
    → results_after s e ≡ []
no-result f capacity s (Learn clause hints lbd offered) none ok = rw none refl
no-result f capacity s (entry.Unit actor lit hints) none ok =
    let low = ok.able.0 in
    let is : Rattle.std.specs.Prelude.nat_lt 0 actor ≡ false = grind (arith, nat_tests) in
    rw (none, is) refl
no-result f capacity s (Take actor) none ok = rw none refl
no-result f capacity s (Return actor outcome) none ok =
    let above = ok.able.0 in let low = ok.able.1 in absurd (omega arith)
no-result f capacity s Import none ok = absurd (ok.ready none)
no-result f capacity s Drained none ok = rw none refl
no-result f capacity s (Forget actor ids) none ok = rw none refl
no-result f capacity s Close none ok = rw none refl

no-results : (f : Cnf) (capacity : ℕ) (d : List Entry) (s : State) → s.results ≡ [] → IsLegalFrom f 0 capacity s d
    → (state_from f 0 capacity s d).results ≡ []
no-results f capacity [] s none legal = none
no-results f capacity (e ∷ es) s none legal =
    no-results f capacity es (after f 0 capacity s e) (no-result f capacity s e none legal.0) legal.1

pub alone-there-are-no-results : AloneThereAreNoResults
alone-there-are-no-results f capacity d legal = no-results f capacity d (initial_state f) refl legal
