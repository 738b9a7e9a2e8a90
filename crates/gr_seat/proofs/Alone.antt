-- histories that the searching thread and one reducer make alone, entry by entry
use Rattle.std.proofs.Common.{◌≡◌, ◌≤◌, ◌<◌, ◌+◌, ℕ, if◌then◌else◌, List, [], ◌∷◌, ◌++◌, length, take}
use Rattle.std.proofs.Common.{length-append, Option, Some, None, IfSome, refl, sym, ap, ◌∙◌, subst, arith}
use Rattle.std.proofs.lemmas.List.{append-nil}
use mathlib.Core.List.{IsPrefix}
use Rattle.gr_logic.specs.Formulas.{Cnf}
use Rattle.gr_logic.specs.Literals.{Literal}
use Rattle.gr_logic.specs.declared.items.Strengthened.{Strengthened}
use Rattle.gr_logic.specs.declared.items.Strengthened.TheVariants.{Shorter}
use Rattle.gr_bench.specs.Answers.{id_of_outcome}
use Rattle.gr_diary.specs.declared.entries.Entry.{Entry}
use Rattle.gr_diary.specs.declared.entries.Entry.TheVariants.{Take, Return, Forget}
use Rattle.gr_diary.specs.States.{State}
use Rattle.gr_diary.specs.Histories.{IsEnabled, entries_of, state_of}
use Rattle.gr_diary.specs.ExampleRuns.{skips, skipping_run}
use Rattle.gr_diary.specs.Examples.{plus}
use Rattle.gr_diary.proofs.Among.{same-number}
use Rattle.gr_diary.proofs.SkippingRun.{skipping-run-is-legal}
use Rattle.gr_turn.proofs.Lists.{prefix_nil}
use Rattle.gr_seat.specs.Handles.{Handle, Enables, HasSeenLegal}
use Rattle.gr_seat.specs.Turns.{TakesTurn, Makes}
use Rattle.gr_seat.proofs.Held.{state_then, gained_may_go}
use Rattle.gr_seat.proofs.Later.{enabled_later}

nothing : {A : Type 0} (xs : List A) → length xs ≡ 0 → xs ≡ []
nothing [] e = refl
nothing (x ∷ xs) e = absurd (omega arith)

-- a history that ends with the seat's entry, and has one entry more than the seat had seen, has no other
no_other : (d before s t : List Entry) (e : Entry) → IsPrefix d before → s ≡ before ++ e ∷ [] → IsPrefix s t
    → length t ≡ length d + 1 → t ≡ d ++ e ∷ []
no_other d before s t e begins ends more count =
    let rest = begins.0 in
    let last = more.0 in
    let one = ap length (sym begins.1) ∙ length-append d rest in
    let two = ap length ends ∙ length-append before (e ∷ []) in
    let three = ap length (sym more.1) ∙ length-append s last in
    let same : before ≡ d =
    sym begins.1 ∙ ap (λ r. d ++ r) (nothing rest (omega arith)) ∙ append-nil d in
    sym more.1 ∙ ap (λ l. s ++ l) (nothing last (omega arith)) ∙ append-nil s ∙ ends ∙ ap (λ b. b ++ e ∷ []) same

-- where one entry came since the seat had seen this history, it is the one that the seat made
pub next_entry : (h s t : Handle) (e : Entry) (Told : State → Type 0) → Makes h s e Told → IsPrefix s.seen t.seen
    → length t.seen ≡ length h.seen + 1 → t.seen ≡ h.seen ++ e ∷ []
next_entry h s t e Told makes begins one =
    no_other h.seen makes.before s.seen t.seen e makes.begins makes.ends begins one

-- what an actor may do after a history, its seat enables where it has seen that history
pub at_seat : (h : Handle) (f : Cnf) (reducers capacity actor : ℕ) (d : List Entry) (e : ℕ → Entry) → h.formula ≡ f
    → h.reducers ≡ reducers → h.capacity ≡ capacity → h.actor ≡ actor → h.seen ≡ d
    → IsEnabled f reducers capacity d (e actor) → Enables h (e h.actor)
at_seat h f n w a d e formula reducers capacity actor seen able =
    subst (λ (k : Cnf × ℕ × ℕ × List Entry × ℕ). IsEnabled k.0 k.1 k.2 k.3 (e k.4))
    (λ i. (sym formula i, sym reducers i, sym capacity i, sym seen i, sym actor i)) able

-- a reducer that has made no entry may take a clause
pub first_may_take : (h : Handle) → HasSeenLegal h → entries_of h.seen h.actor ≡ [] → 0 < h.actor
    → h.actor ≤ h.reducers → Enables h (Take h.actor)
first_may_take h legal none above within =
    enabled_later h.formula h.reducers h.capacity [] h.seen (Take h.actor) tt legal (prefix_nil h.seen) (sym none)
    (above, within, refl)

-- the reducer that has taken the clause on offer may give its part `1 3` back
pub shorter_third : (h : Handle) → h.formula ≡ skips → h.reducers ≡ 1 → h.capacity ≡ 1 → h.actor ≡ 1
    → h.seen ≡ take 1 skipping_run ++ Take h.actor ∷ []
    → Enables h (Return h.actor (Shorter (plus 1 ∷ plus 3 ∷ []) (1 ∷ 2 ∷ 3 ∷ [])))
shorter_third h formula reducers capacity actor seen =
    at_seat h skips 1 1 1 (take 2 skipping_run)
    (λ n. Return n (Shorter (plus 1 ∷ plus 3 ∷ []) (1 ∷ 2 ∷ 3 ∷ []))) formula reducers capacity actor
    (seen ∙ ap (λ n. take 1 skipping_run ++ Take n ∷ []) actor) skipping-run-is-legal.0.1.1.0.able

-- a reducer that has given its clause back has none
none_left : (s t : Handle) (outcome : Strengthened) (Told : State → Type 0) → TakesTurn s t
    → (makes : Makes s t (Return s.actor outcome) Told)
    → (state_of t.formula t.reducers t.capacity t.seen).taken s.actor ≡ None
none_left s t outcome Told turn makes =
    ap (λ (x : State). x.taken s.actor) (state_then s t (Return s.actor outcome) Told makes)
    ∙ ap (λ b. if b then None else (state_of t.formula t.reducers t.capacity makes.before).taken s.actor)
    (same-number s.actor)

-- so it may take the next one
pub returned_may_take : (s t : Handle) (outcome : Strengthened) (Told : State → Type 0) → TakesTurn s t
    → Makes s t (Return s.actor outcome) Told → 0 < s.actor → s.actor ≤ s.reducers → Enables t (Take t.actor)
returned_may_take s t outcome Told turn makes above within =
    let same = turn.sees.same in
    subst (λ (n : ℕ). Enables t (Take n)) (sym same.actor)
    (above, subst (λ (n : ℕ). s.actor ≤ n) (sym same.reducers) within, none_left s t outcome Told turn makes)

-- and may let the shorter one go
pub shorter_may_go : (s t : Handle) (c : List Literal) (hints : List ℕ) (told : Option ℕ) → TakesTurn s t
    → Makes s t (Return s.actor (Shorter c hints)) (λ x. told ≡ id_of_outcome x (Shorter c hints))
    → s.actor ≤ s.reducers → IfSome told (λ id. Enables t (Forget t.actor (id ∷ [])))
shorter_may_go s t c hints None turn makes within = tt
shorter_may_go s t c hints (Some id) turn makes within =
    let same = turn.sees.same in
    let Told : State → Type 0 = λ x. Some id ≡ id_of_outcome x (Shorter c hints) in
    subst (λ (n : ℕ). Enables t (Forget n (id ∷ []))) (sym same.actor)
    (gained_may_go s t (Return s.actor (Shorter c hints)) id Told turn makes (λ x is. sym is)
    (subst (λ (n : ℕ). s.actor ≤ n) (sym same.reducers) within)
    (none_left s t (Shorter c hints) Told turn makes))
