-- a reducer that has made no entry
use Rattle.std.proofs.Common.{◌≡◌, ◌<◌, ◌≤◌, [], refl, sym, ap, ◌∙◌}
use Rattle.std.specs.Option.{option_map}
use Rattle.std.specs.FinMap as finite
use Rattle.gr_logic.specs.Rup.{members}
use Rattle.gr_logic.specs.Closure.{family_of}
use Rattle.gr_diary.specs.Histories.{entries_of, part_after, clauses_held_by}
use Rattle.gr_diary.proofs.Own.{own-part-stays}
use Rattle.gr_seat.specs.Handles.{Handle, HasSeenLegal}
use Rattle.gr_strengthen.specs.Strengtheners.{StrengthenerState}
use Rattle.gr_reducer.specs.Steps.{held_at, taken_at, without_taken, IsInStep, IsFree}
use Rattle.gr_reducer.proofs.Keeps.{family-empty}

module _ (h : Handle) (legal : HasSeenLegal h) (none : entries_of h.seen h.actor ≡ []) where
  stays : (part_after h.formula h.reducers h.capacity [] h.actor
      ≡ part_after h.formula h.reducers h.capacity h.seen h.actor)
      × (clauses_held_by h.formula h.reducers h.capacity [] h.actor ≡ held_at h)
      × ((part_after h.formula h.reducers h.capacity [] h.actor).taken ≡ taken_at h)
  stays = own-part-stays h.formula h.reducers h.capacity h.actor [] h.seen
      record { legal = tt; legal_later = legal; begins = (h.seen, refl); own = sym none }

  -- it has taken nothing
  pub begins-free : IsFree h
  begins-free = sym stays.2

  -- and holds nothing
  pub begins-in-step : 0 < h.actor → h.actor ≤ h.reducers → (s : StrengthenerState) → s.formula ≡ h.formula
      → s.kept ≡ finite.empty → IsInStep h s
  begins-in-step reducer within s formula empty = record {
    legal = legal;
    reducer = reducer;
    within = within;
    formula = formula;
    kept = λ id. ap (λ k. Rattle.gr_strengthen.specs.Families.kept_family k id) empty ∙ family-empty id
        ∙ ap (option_map members) (λ i. stays.1 i id)
        ∙ ap (λ o. family_of (without_taken o (held_at h)) id) (sym begins-free);
  }
