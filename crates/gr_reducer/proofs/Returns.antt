-- a reducer gives back what it has taken
use Rattle.std.proofs.Common.{◌≡◌, ℕ, Bool, true, false, List, Some, None, option_to_list, refl, sym, ap, ◌∙◌, subst, nat_eq, if◌then◌else◌}
use Rattle.std.specs.Option.{option_map}
use Rattle.std.specs.FinMap as finite
use Rattle.std.specs.FinSet as set
use Rattle.std.proofs.lemmas.Bool.{eqb-true}
use Rattle.gr_logic.specs.Literals.{Literal}
use Rattle.gr_logic.specs.Rup.{members}
use Rattle.gr_logic.specs.Closure.{family_of}
use Rattle.gr_logic.specs.declared.items.Strengthened.TheVariants.{Same, Shorter}
use Rattle.gr_diary.specs.declared.entries.Entry.TheVariants.{Return}
use Rattle.gr_diary.specs.States.{State, has}
use Rattle.gr_diary.specs.Histories.{state_of}
use Rattle.gr_bench.specs.Answers.{id_of_outcome}
use Rattle.gr_seat.specs.Handles.{Handle}
use Rattle.gr_seat.specs.Turns.{SeesMore, Makes}
use Rattle.gr_strengthen.specs.Families.{kept_family}
use Rattle.gr_strengthen.specs.Strengtheners.{StrengthenerState}
use Rattle.gr_reducer.specs.Steps.{held_at, taken_at, without_taken, IsInStep, IsFree, HasTaken}
use Rattle.gr_reducer.proofs.Keeps.{family-with}
use Rattle.gr_reducer.proofs.Held.{IsNewId, new-id}
use Rattle.gr_reducer.proofs.Made.{IsMade, made}
use Rattle.gr_reducer.proofs.Moving.{or-none, some-is, in-step, added}

-- ---- as it is
module _ (s t : Handle) (k : StrengthenerState) (id : ℕ) (c : List Literal) (Tells : State → Type 0) (i : IsInStep s k)
    (taken : HasTaken s id c) (sees : SeesMore s t) (m : Makes s t (Return s.actor Same) Tells)
  where
    abbrev at : State
    at = state_of s.formula s.reducers s.capacity m.before

    is-made : IsMade s t (Return s.actor Same) at
    is-made = made s t (Return s.actor Same) Tells i.legal sees refl m

    pub free-after-same : IsFree t
    free-after-same = is-made.taken

    kept : (q : ℕ) → kept_family (finite.insert k.kept id (set.from_list c)) q
        ≡ family_of (without_taken (taken_at t) (held_at t)) q
    kept q = family-with k.kept id c q
        ∙ ap (λ o. if nat_eq q id then Some (members c) else o)
        (i.kept q ∙ ap (λ o. family_of (without_taken o (held_at s)) q) taken.taken)
        ∙ pick (nat_eq q id) refl ∙ sym (ap (option_map members) (is-made.held q))
        ∙ ap (λ o. family_of (without_taken o (held_at t)) q) (sym free-after-same)
      where
        pick : (b : Bool) → nat_eq q id ≡ b
            → (if b then Some (members c) else option_map members (if b then None else held_at s q))
            ≡ option_map members (held_at s q)
        pick true is = sym (ap (option_map members) (ap (held_at s) (eqb-true q id is) ∙ taken.clause))
        pick false is = refl

    pub after-same : IsInStep t (record k { kept = finite.insert k.kept id (set.from_list c) })
    after-same = in-step s t k (record k { kept = finite.insert k.kept id (set.from_list c) }) i sees refl kept

-- ---- a shorter one in its place
module _ (s t : Handle) (k : StrengthenerState) (id : ℕ) (c d : List Literal) (hints : List ℕ) (new : ℕ)
    (i : IsInStep s k) (taken : HasTaken s id c) (sees : SeesMore s t)
    (m : Makes s t (Return s.actor (Shorter d hints)) (λ st. Some new ≡ id_of_outcome st (Shorter d hints)))
  where
    abbrev at' : State
    at' = state_of s.formula s.reducers s.capacity m.before

    is-made' : IsMade s t (Return s.actor (Shorter d hints)) at'
    is-made' = made s t (Return s.actor (Shorter d hints)) (λ st. Some new ≡ id_of_outcome st (Shorter d hints)) i.legal
        sees refl m

    named : new ≡ at'.next
    named = some-is new at'.next m.tells

    pub free-after-shorter : IsFree t
    free-after-shorter = is-made'.taken

    held : (q : ℕ) → held_at t q ≡ (if nat_eq q new then Some d else (if nat_eq q id then None else held_at s q))
    held q = is-made'.held q
        ∙ added at' d (if has q (option_to_list (at'.taken s.actor)) then None else held_at s q) q
        ∙ (λ j. if nat_eq q (sym named j) then Some d
        else (if has q (option_to_list ((is-made'.had ∙ taken.taken) j)) then None else held_at s q))
        ∙ ap (λ b. if nat_eq q new then Some d else (if b then None else held_at s q)) (or-none (nat_eq q id))

    kept' : (q : ℕ) → kept_family (finite.insert k.kept new (set.from_list d)) q
        ≡ family_of (without_taken (taken_at t) (held_at t)) q
    kept' q = family-with k.kept new d q
        ∙ ap (λ o. if nat_eq q new then Some (members d) else o)
        (i.kept q ∙ ap (λ o. family_of (without_taken o (held_at s)) q) taken.taken)
        ∙ pick (nat_eq q new) ∙ sym (ap (option_map members) (held q))
        ∙ ap (λ o. family_of (without_taken o (held_at t)) q) (sym free-after-shorter)
      where
        pick : (b : Bool)
            → (if b then Some (members d) else option_map members (if nat_eq q id then None else held_at s q))
            ≡ option_map members (if b then Some d else (if nat_eq q id then None else held_at s q))
        pick true = refl
        pick false = refl

    pub after-shorter : IsInStep t (record k { kept = finite.insert k.kept new (set.from_list d) })
    after-shorter = in-step s t k (record k { kept = finite.insert k.kept new (set.from_list d) }) i sees refl kept'

    pub shorter-is-new : IsNewId k new
    shorter-is-new = subst (IsNewId k) (sym named)
        (new-id s t k (Return s.actor (Shorter d hints)) at' i is-made')
