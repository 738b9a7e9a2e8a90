-- a reducer lets clauses go
use Rattle.std.proofs.Common.{◌≡◌, ℕ, Bool, true, false, List, None, refl, sym, ap, ◌∙◌, if◌then◌else◌}
use Rattle.std.specs.Option.{option_map}
use Rattle.gr_logic.specs.Rup.{members}
use Rattle.gr_logic.specs.Closure.{family_of}
use Rattle.gr_diary.specs.declared.entries.Entry.TheVariants.{Forget}
use Rattle.gr_diary.specs.States.{State, has}
use Rattle.gr_diary.specs.Histories.{state_of}
use Rattle.gr_seat.specs.Handles.{Handle}
use Rattle.gr_seat.specs.Turns.{SeesMore, Makes}
use Rattle.gr_strengthen.specs.Families.{kept_family, without_ids}
use Rattle.gr_strengthen.specs.Strengtheners.{StrengthenerState}
use Rattle.gr_reducer.specs.Steps.{held_at, taken_at, without_taken, IsInStep, IsFree}
use Rattle.gr_reducer.proofs.Keeps.{family-without}
use Rattle.gr_reducer.proofs.Made.{IsMade, made}
use Rattle.gr_reducer.proofs.Moving.{in-step}

module _ (s t : Handle) (k new : StrengthenerState) (ids : List ℕ) (Tells : State → Type 0) (i : IsInStep s k)
    (free : IsFree s) (formula : new.formula ≡ k.formula) (rest : new.kept ≡ without_ids k.kept ids)
    (sees : SeesMore s t) (m : Makes s t (Forget s.actor ids) Tells)
  where
    abbrev at : State
    at = state_of s.formula s.reducers s.capacity m.before

    is-made : IsMade s t (Forget s.actor ids) at
    is-made = made s t (Forget s.actor ids) Tells i.legal sees refl m

    pub free-after-forget : IsFree t
    free-after-forget = is-made.taken ∙ is-made.had ∙ free

    kept : (q : ℕ) → kept_family new.kept q ≡ family_of (without_taken (taken_at t) (held_at t)) q
    kept q = ap (λ x. kept_family x q) rest ∙ family-without ids k.kept q
        ∙ ap (λ o. if has q ids then None else o)
        (i.kept q ∙ ap (λ o. family_of (without_taken o (held_at s)) q) free)
        ∙ pick (has q ids) ∙ sym (ap (option_map members) (is-made.held q))
        ∙ ap (λ o. family_of (without_taken o (held_at t)) q) (sym free-after-forget)
      where
        pick : (b : Bool) → (if b then None else option_map members (held_at s q))
            ≡ option_map members (if b then None else held_at s q)
        pick true = refl
        pick false = refl

    pub after-forget : IsInStep t new
    after-forget = in-step s t k new i sees formula kept
