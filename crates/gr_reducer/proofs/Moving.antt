-- a clause comes into what a reducer holds, and into what its strengthener keeps
use Rattle.std.proofs.Common.{◌≡◌, ℕ, ◌<◌, ◌≤◌, Bool, true, false, ◌||◌, List, [], ◌∷◌, Option, Some, None, is_some, refl, sym, ap, ◌∙◌, subst, arith, nat_eq, if◌then◌else◌}
use Rattle.std.specs.Option.{option_map}
use Rattle.std.specs.FinMap as map
use Rattle.std.proofs.lemmas.Bool.{eqb-true, false_from_ne_true}
use Rattle.gr_logic.specs.Literals.{Literal}
use Rattle.gr_logic.specs.Rup.{Live, members}
use Rattle.gr_logic.specs.Closure.{family_of}
use Rattle.gr_diary.specs.declared.entries.Entry.{Entry}
use Rattle.gr_diary.specs.States.{State, has}
use Rattle.gr_diary.proofs.Among.{not-both}
use Rattle.gr_diary.proofs.LogPieces.{get-insert_at}
use Rattle.gr_seat.specs.Handles.{Handle}
use Rattle.gr_seat.specs.Turns.{SeesMore}
use Rattle.gr_strengthen.specs.Families.{kept_family}
use Rattle.gr_strengthen.specs.Strengtheners.{StrengthenerState}
use Rattle.gr_reducer.specs.Steps.{held_at, taken_at, without_taken, IsInStep}
use Rattle.gr_reducer.proofs.Made.{IsMade}

pub or-none : (b : Bool) → (b || false) ≡ b
or-none true = refl
or-none false = refl

pub is-none : {X : Type 0} (o : Option X) → is_some o ≡ false → o ≡ None
is-none None e = refl
is-none (Some x) e = absurd (cc)

pub some-is : {X : Type 0} (a b : X) → Some a ≡ Some b → a ≡ b
some-is a b e = cc

-- the seat has seen more, and the strengthener keeps what the reducer holds then
pub in-step : (s t : Handle) (k new : StrengthenerState) → IsInStep s k → SeesMore s t → new.formula ≡ k.formula
    → ((id : ℕ) → kept_family new.kept id ≡ family_of (without_taken (taken_at t) (held_at t)) id) → IsInStep t new
in-step s t k new i sees formula kept = record {
  legal = sees.legal;
  reducer = subst (λ (n : ℕ). 0 < n) (sym sees.same.actor) i.reducer;
  within = subst (λ (p : ℕ × ℕ). p.0 ≤ p.1) (λ j. (sym sees.same.actor j, sym sees.same.reducers j)) i.within;
  formula = formula ∙ i.formula ∙ sym sees.same.formula;
  kept = kept;
}

-- the clause of the next id is the one that is added
pub added : (s : State) (c : List Literal) (rest : Option (List Literal)) (q : ℕ)
    → (if has q (s.next ∷ []) then map.get (map.insert s.live s.next c) q else rest)
    ≡ (if nat_eq q s.next then Some c else rest)
added s c rest q = pick (nat_eq q s.next) refl
  where
    pick : (b : Bool) → nat_eq q s.next ≡ b
        → (if b || false then map.get (map.insert s.live s.next c) q else rest) ≡ (if b then Some c else rest)
    pick true is = get-insert_at s.live s.next c q ∙ ap (λ b. if b then Some c else map.get s.live q) is
    pick false is = refl

-- where an id is new, a clause comes in under it beside the one that is taken
pub without-added : (o : Option ℕ) (held new : Live) (next : ℕ) (c : List Literal) → (o ≡ Some next → ⊥)
    → ((q : ℕ) → new q ≡ (if nat_eq q next then Some c else held q)) → (q : ℕ)
    → family_of (without_taken o new) q
    ≡ (if nat_eq q next then Some (members c) else family_of (without_taken o held) q)
without-added None held new next c other is q = ap (option_map members) (is q) ∙ pick (nat_eq q next)
  where
    pick : (b : Bool) → option_map members (if b then Some c else held q)
        ≡ (if b then Some (members c) else option_map members (held q))
    pick true = refl
    pick false = refl
without-added (Some taken) held new next c other is q = pick (nat_eq q taken) refl (nat_eq q next) refl (is q)
  where
    pick : (a : Bool) → nat_eq q taken ≡ a → (b : Bool) → nat_eq q next ≡ b
        → new q ≡ (if b then Some c else held q)
        → option_map members (if a then None else new q)
        ≡ (if b then Some (members c) else option_map members (if a then None else held q))
    pick true x true y e = absurd (other (ap Some (sym (eqb-true q taken x) ∙ eqb-true q next y)))
    pick true x false y e = refl
    pick false x true y e = ap (option_map members) e
    pick false x false y e = ap (option_map members) e

-- the next id is new to the reducer
module _ (s t : Handle) (e : Entry) (at : State) (m : IsMade s t e at) where
  next-free : has at.next (at.held s.actor) ≡ false
  next-free = false_from_ne_true (has at.next (at.held s.actor))
      (λ there. let below = (m.kept.order.held s.actor at.next there).below in absurd (omega (arith, below)))

  pub next-not-held : held_at s at.next ≡ None
  next-not-held = is-none (held_at s at.next) (sym (m.shown at.next) ∙ next-free)

  pub next-not-taken : taken_at s ≡ Some at.next → ⊥
  next-not-taken is =
      not-both (has at.next (at.held s.actor)) (m.kept.order.taken s.actor at.next (m.had ∙ is)).0 next-free
