-- what a strengthener may keep
use Rattle.std.proofs.Common.{◌≡◌, ℕ, ◌<◌, Bool, true, false, List, length, Some, None, Option, refl, sym, ap, ◌∙◌, subst, nat_eq, if◌then◌else◌}
use Rattle.std.specs.Prelude.{is_some}
use Rattle.std.specs.Option.{option_map}
use Rattle.std.specs.FinMap as finite
use Rattle.gr_logic.specs.Literals.{Literal}
use Rattle.gr_logic.specs.Formulas.{Cnf, VarsUpTo}
use Rattle.gr_logic.specs.Rup.{members}
use Rattle.gr_logic.specs.Closure.{family_of}
use Rattle.gr_logic.specs.NormalForms.{IsNormal}
use Rattle.gr_diary.specs.declared.entries.Entry.{Entry}
use Rattle.gr_diary.specs.States.{State, has}
use Rattle.gr_diary.specs.Histories.{state_of}
use Rattle.gr_diary.specs.Invariant.{IsKept}
use Rattle.gr_diary.specs.HoldingLaws.{IsShownBy}
use Rattle.gr_diary.proofs.Among.{same-number}
use Rattle.gr_diary.proofs.Holding.{parts-show-held-clauses, state-kept, held-is}
use Rattle.gr_seat.specs.Handles.{Handle, HasSeenLegal}
use Rattle.gr_strengthen.specs.Strengtheners.{StrengthenerState}
use Rattle.gr_reducer.specs.Steps.{held_at, taken_at, without_taken, IsInStep, HasTaken}
use Rattle.gr_reducer.proofs.Keeps.{none-there}
use Rattle.gr_reducer.proofs.Made.{IsMade}
use Rattle.gr_reducer.proofs.Moving.{next-not-held}

-- the id is above the formula's, and nothing is kept under it
pub record IsNewId (k : StrengthenerState) (id : ℕ) : Type 0 where
  pub above : length k.formula.clauses < id
  pub free : finite.get k.kept id ≡ None

-- the clause may be kept
pub record IsFit (k : StrengthenerState) (id : ℕ) (c : List Literal) : Type 0 where
  pub new : IsNewId k id
  pub normal : IsNormal c
  pub known : VarsUpTo k.formula.vars c

nothing-held : (o : Option ℕ) (s : Handle) (id : ℕ) → held_at s id ≡ None
    → family_of (without_taken o (held_at s)) id ≡ None
nothing-held None s id none = ap (option_map members) none
nothing-held (Some taken) s id none = pick (nat_eq id taken)
  where
    pick : (b : Bool) → option_map members (if b then None else held_at s id) ≡ None
    pick true = refl
    pick false = ap (option_map members) none

-- so is the id that an entry makes
pub new-id : (s t : Handle) (k : StrengthenerState) (e : Entry) (at : State) → IsInStep s k → IsMade s t e at
    → IsNewId k at.next
new-id s t k e at i m = record {
  above = subst (λ (f : Cnf). length f.clauses < at.next) (sym i.formula) m.kept.order.next;
  free = none-there k.kept at.next
      (i.kept at.next ∙ nothing-held (taken_at s) s at.next (next-not-held s t e at m));
}

-- a clause that is held is a learnt one
pub record IsHeld (h : Handle) (id : ℕ) (c : List Literal) : Type 0 where
  pub above : length h.formula.clauses < id
  pub normal : IsNormal c
  pub known : VarsUpTo h.formula.vars c

pub held-clause : (h : Handle) (id : ℕ) (c : List Literal) → HasSeenLegal h → held_at h id ≡ Some c → IsHeld h id c
held-clause h id c legal got =
    let there : has id (at.held h.actor) ≡ true = shown.held id ∙ ap is_some got in
    let live : finite.get at.live id ≡ Some c =
    sym (held-is h.formula at h.actor id ∙ ap (λ b. if b then finite.get at.live id else None) there) ∙ got in
    let above = (k.order.held h.actor id there).above in
    let fit = k.order.normal id c above live in
    record { above = above; normal = fit.0; known = fit.1 }
  where
    at : State
    at = state_of h.formula h.reducers h.capacity h.seen

    k : IsKept h.formula h.reducers at
    k = state-kept h.formula h.reducers h.capacity h.seen legal

    shown : IsShownBy h.formula h.reducers h.capacity h.seen h.actor
    shown = parts-show-held-clauses h.formula h.reducers h.capacity h.actor h.seen legal

-- the clause that is taken may be strengthened, and kept once it is given back
pub taken-is-fit : (h : Handle) (k : StrengthenerState) (id : ℕ) (c : List Literal) → IsInStep h k → HasTaken h id c
    → IsFit k id c
taken-is-fit h k id c i has =
    let is = held-clause h id c i.legal has.clause in
    let back = sym i.formula in record {
      new = record {
        above = subst (λ (f : Cnf). length f.clauses < id) back is.above;
        free = none-there k.kept id (i.kept id
            ∙ ap (λ o. family_of (without_taken o (held_at h)) id) has.taken
            ∙ ap (λ b. option_map members (if b then None else held_at h id)) (same-number id));
      };
      normal = is.normal;
      known = subst (λ (f : Cnf). VarsUpTo f.vars c) back is.known;
    }
