-- the last variable that is in is the most active one
use Rattle.std.proofs.Common.{◌≡◌, ℕ, ◌+◌, ◌-◌, ◌<◌, ◌≤◌, Bool, true, false, List, length, ap, sym, ◌∙◌, arith, inl, inr}
use Rattle.std.specs.Prelude.{slice_index, slice_index_or}
use Rattle.std.proofs.lemmas.Bool.{cases_lt, false≢true}
use Rattle.std.proofs.lemmas.List.{get_or_past}
use Rattle.gr_heur.specs.declared.queues.Queue.{Queue}
use Rattle.gr_heur.specs.Orders.{OrderState, IsIn, IsPicked, activity_of}
use Rattle.gr_heur.specs.Queues.{IsLastIn}
use Rattle.gr_heur.specs.Stored.{IsStored}

-- what is in is a variable
pub in_known : (present : List Bool) (v : ℕ) → slice_index_or present v false ≡ true → v < length present
in_known present v is_in = elim (cases_lt v (length present)) [
  | inl low ↦ low
  | inr past ↦ absurd (false≢true (sym (get_or_past present v false past) ∙ is_in))
]

module _ {bumps : ℕ} {activities : List ℕ} {present : List Bool} {queue : Queue} {bound at : ℕ}
    (stored : IsStored bumps activities present queue bound)
    (last : IsLastIn queue.slots.items queue.places.items present bound at)
    (index : ℕ) (is : slice_index queue.slots.items at ≡ index) where
  abbrev state : OrderState
  state = record { vars = length activities; bumps = bumps; activities = activities; present = present }

  back : index + 1 - 1 ≡ index
  back = omega arith

  present_here : slice_index_or present index false ≡ true
  present_here = ap (λ v. slice_index_or present v false) (sym is) ∙ last.is_in

  stands_here : slice_index queue.places.items index ≡ at
  stands_here = ap (slice_index queue.places.items) (sym is) ∙ last.stands

  known : index < length activities
  known = omega (arith, in_known present index present_here, stored.each_known)

  -- each that is in stands at or before the slot
  before : (v : ℕ) → slice_index_or present v false ≡ true
      → (v < length queue.places.items) × (slice_index queue.places.items v ≤ at)
  before v is_in =
      let low : v < length activities = omega (arith, in_known present v is_in, stored.each_known) in
      let placed : v < length queue.places.items = omega (arith, low, stored.each_placed) in
      (placed, last.last v placed is_in (stored.below_bound v low is_in))

  pub is_here : IsIn state (index + 1)
  is_here = (omega arith, ap (λ v. slice_index_or present v false) back ∙ present_here)

  activity_here : activity_of state (index + 1) ≡ slice_index activities index
  activity_here = ap (slice_index activities) back

  placed_here : index < length queue.places.items
  placed_here = omega (arith, known, stored.each_placed)

  pub picked : IsPicked state (index + 1)
  picked = record {
    known = omega (arith, known);
    is_in = is_here;
    greatest = λ other is_in.
        let place = before (other - 1) is_in.1 in
        elim (cases_lt (slice_index activities index) (slice_index activities (other - 1))) [
          | inl more ↦ absurd (omega (
            arith,
            place.1,
            stands_here,
            stored.ranked.more (other - 1) index place.0 placed_here more,
          ))
          | inr as_much ↦ omega (arith, as_much, activity_here)
        ];
    least = λ other is_in same.
        let place = before (other - 1) is_in.1 in
        elim (cases_lt (other - 1) index) [
          | inl less ↦ absurd (omega (
            arith,
            place.1,
            stands_here,
            stored.ranked.tie (other - 1) index place.0 placed_here (omega (arith, same, activity_here)) less,
          ))
          | inr greater ↦ omega (arith, greater, is_in.0)
        ];
  }
