-- a reducer shares a unit
use Rattle.std.proofs.Common.{◌≡◌, ℕ, Bool, true, false, List, [], ◌∷◌, Some, None, refl, sym, ap, ◌∙◌, subst, nat_eq, if◌then◌else◌}
use Rattle.std.specs.FinMap as finite
use Rattle.std.specs.FinSet as set
use Rattle.std.proofs.lemmas.Bool.{eqb-true}
use Rattle.gr_logic.specs.Literals.{Literal}
use Rattle.gr_logic.specs.Rup.{members}
use Rattle.gr_logic.specs.Closure.{family_of}
use Rattle.gr_diary.specs.declared.entries.Entry.TheVariants as entry
use Rattle.gr_diary.specs.States.{State}
use Rattle.gr_diary.specs.Histories.{state_of}
use Rattle.gr_seat.specs.Handles.{Handle}
use Rattle.gr_seat.specs.Turns.{SeesMore, Makes}
use Rattle.gr_strengthen.specs.Families.{kept_family}
use Rattle.gr_strengthen.specs.Strengtheners.{StrengthenerState}
use Rattle.gr_reducer.specs.Steps.{held_at, taken_at, without_taken, IsInStep, KeepsTaken}
use Rattle.gr_reducer.proofs.Keeps.{family-with}
use Rattle.gr_reducer.proofs.Held.{IsNewId, new-id}
use Rattle.gr_reducer.proofs.Made.{IsMade, made}
use Rattle.gr_reducer.proofs.Moving.{in-step, added, without-added, next-not-held, next-not-taken}

module _ (s t : Handle) (k : StrengthenerState) (l : Literal) (hints : List ℕ) (id : ℕ) (i : IsInStep s k)
    (sees : SeesMore s t) (m : Makes s t (entry.Unit s.actor l hints) (λ st. id ≡ st.next))
  where
    abbrev at : State
    at = state_of s.formula s.reducers s.capacity m.before

    is-made : IsMade s t (entry.Unit s.actor l hints) at
    is-made = made s t (entry.Unit s.actor l hints) (λ st. id ≡ st.next) i.legal sees refl m

    taken : taken_at t ≡ taken_at s
    taken = is-made.taken ∙ is-made.had

    not-taken : taken_at s ≡ Some id → ⊥
    not-taken is = next-not-taken s t (entry.Unit s.actor l hints) at is-made (is ∙ ap Some m.tells)

    not-held : held_at s id ≡ None
    not-held = ap (held_at s) m.tells ∙ next-not-held s t (entry.Unit s.actor l hints) at is-made

    held : (q : ℕ) → held_at t q ≡ (if nat_eq q id then Some (l ∷ []) else held_at s q)
    held q = is-made.held q ∙ added at (l ∷ []) (held_at s q) q
        ∙ ap (λ n. if nat_eq q n then Some (l ∷ []) else held_at s q) (sym m.tells)

    kept : (q : ℕ) → kept_family (finite.insert k.kept id (set.from_list (l ∷ []))) q
        ≡ family_of (without_taken (taken_at t) (held_at t)) q
    kept q = family-with k.kept id (l ∷ []) q
        ∙ ap (λ o. if nat_eq q id then Some (members (l ∷ [])) else o) (i.kept q)
        ∙ sym (without-added (taken_at s) (held_at s) (held_at t) id (l ∷ []) not-taken held q)
        ∙ ap (λ o. family_of (without_taken o (held_at t)) q) (sym taken)

    pub after-unit : IsInStep t (record k { kept = finite.insert k.kept id (set.from_list (l ∷ [])) })
    after-unit =
        in-step s t k (record k { kept = finite.insert k.kept id (set.from_list (l ∷ [])) }) i sees refl kept

    -- what is taken stays
    pub keeps-taken : KeepsTaken s t
    keeps-taken q c has = record {
      taken = taken ∙ has.taken;
      clause = held q ∙ pick (nat_eq q id) refl;
    }
      where
        pick : (b : Bool) → nat_eq q id ≡ b → (if b then Some (l ∷ []) else held_at s q) ≡ Some c
        pick true is = absurd (let none = ap (held_at s) (eqb-true q id is) ∙ not-held in let some = has.clause in cc)
        pick false is = has.clause

    -- the id may be kept
    pub unit-is-new : IsNewId k id
    unit-is-new = subst (IsNewId k) (sym m.tells)
        (new-id s t k (entry.Unit s.actor l hints) at i is-made)
