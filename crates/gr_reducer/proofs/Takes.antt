-- a reducer takes a clause
use Rattle.std.proofs.Common.{◌≡◌, ℕ, Bool, true, false, List, Some, None, option_to_list, refl, sym, ap, ◌∙◌, nat_eq, if◌then◌else◌}
use Rattle.std.specs.Option.{option_map}
use Rattle.std.specs.FinMap as map
use Rattle.std.proofs.lemmas.Bool.{eqb-true, false_from_ne_true}
use Rattle.gr_logic.specs.Literals.{Literal}
use Rattle.gr_logic.specs.Rup.{members}
use Rattle.gr_logic.specs.Closure.{family_of}
use Rattle.gr_diary.specs.declared.entries.Entry.TheVariants.{Take}
use Rattle.gr_diary.specs.States.{State, has, in_work}
use Rattle.gr_diary.specs.Histories.{state_of}
use Rattle.gr_diary.proofs.Among.{same-number, not-both}
use Rattle.gr_diary.proofs.Changes.{best-in}
use Rattle.gr_bench.specs.Answers.{IsBestOffer}
use Rattle.gr_seat.specs.Handles.{Handle}
use Rattle.gr_seat.specs.Turns.{SeesMore, Makes}
use Rattle.gr_strengthen.specs.Families.{kept_family}
use Rattle.gr_strengthen.specs.Strengtheners.{StrengthenerState}
use Rattle.gr_reducer.specs.Steps.{held_at, taken_at, without_taken, IsInStep, IsFree, HasTaken}
use Rattle.gr_reducer.proofs.Made.{IsMade, made}
use Rattle.gr_reducer.proofs.Moving.{or-none, is-none, in-step}

module _ (s t : Handle) (k : StrengthenerState) (id : ℕ) (c : List Literal) (i : IsInStep s k) (free : IsFree s)
    (sees : SeesMore s t) (m : Makes s t (Take s.actor) (λ st. IsBestOffer st id c))
  where
    abbrev at : State
    at = state_of s.formula s.reducers s.capacity m.before

    is-made : IsMade s t (Take s.actor) at
    is-made = made s t (Take s.actor) (λ st. IsBestOffer st id c) i.legal sees refl m

    taken : taken_at t ≡ Some id
    taken = is-made.taken ∙ m.tells.best

    -- no reducer holds what is on offer
    off : has id (at.held s.actor) ≡ false
    off = false_from_ne_true (has id (at.held s.actor))
        (λ there. not-both (in_work id at.work) (best-in at.work id m.tells.best)
        (is-made.kept.order.work_free s.actor id i.reducer there))

    not-held : held_at s id ≡ None
    not-held = is-none (held_at s id) (sym (is-made.shown id) ∙ off)

    held : (q : ℕ) → held_at t q ≡ (if nat_eq q id then map.get at.live q else held_at s q)
    held q = is-made.held q
        ∙ ap (λ o. if has q (option_to_list o) then map.get at.live q else held_at s q) m.tells.best
        ∙ ap (λ b. if b then map.get at.live q else held_at s q) (or-none (nat_eq q id))

    kept : (q : ℕ) → kept_family k.kept q ≡ family_of (without_taken (taken_at t) (held_at t)) q
    kept q = i.kept q ∙ ap (λ o. family_of (without_taken o (held_at s)) q) free ∙ pick (nat_eq q id) refl
        ∙ ap (λ o. family_of (without_taken o (held_at t)) q) (sym taken)
      where
        pick : (b : Bool) → nat_eq q id ≡ b
            → option_map members (held_at s q) ≡ option_map members (if b then None else held_at t q)
        pick true is = ap (option_map members) (ap (held_at s) (eqb-true q id is) ∙ not-held)
        pick false is = ap (option_map members)
            (sym (held q ∙ ap (λ b. if b then map.get at.live q else held_at s q) is))

    -- the strengthener still keeps what the reducer holds, but for the clause that it has taken
    pub after-take : IsInStep t k × HasTaken t id c
    after-take = (
      in-step s t k k i sees refl kept,
      record {
        taken = taken;
        clause = held id ∙ ap (λ b. if b then map.get at.live id else held_at s id) (same-number id) ∙ m.tells.clause;
      },
    )
