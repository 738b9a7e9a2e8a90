-- a bump has the greatest number so far, so its variable stands behind all others
use Rattle.std.proofs.Common.{◌≡◌, ◌≢◌, ℕ, ◌+◌, ◌<◌, ◌≤◌, Bool, true, false, List, length, set, ap, sym, ◌∙◌, arith, inl, inr, get_or-set_same, get_or-set_other, length-set}
use Rattle.std.specs.Prelude.{slice_index, slice_index_or}
use Rattle.std.proofs.lemmas.Bool.{cases_eq}
use Rattle.gr_heur.specs.declared.queues.Queue.{Queue}
use Rattle.gr_heur.specs.Queues.{IsReady, IsRanked, Raises}
use Rattle.gr_heur.specs.Stored.{IsStored}

module _ {bumps : ℕ} {activities : List ℕ} {present : List Bool} {queue : Queue} {bound : ℕ}
    (stored : IsStored bumps activities present queue bound) (index : ℕ) (known : index < length activities)
    (next : Queue) (ready : IsReady next) (raises : Raises index queue.places.items next.places.items) where
  active_here : slice_index (set activities index (bumps + 1)) index ≡ bumps + 1
  active_here = get_or-set_same activities index (bumps + 1) 0 known

  active_other : (v : ℕ) → v ≢ index → slice_index (set activities index (bumps + 1)) v ≡ slice_index activities v
  active_other v apart = get_or-set_other activities index v (bumps + 1) 0 apart

  many : length next.places.items ≡ length queue.places.items
  many = raises.as_many

  active_at : (v : ℕ) → v ≡ index → slice_index (set activities index (bumps + 1)) v ≡ bumps + 1
  active_at v here = ap (slice_index (set activities index (bumps + 1))) here ∙ active_here

  bumped_ranked : IsRanked (set activities index (bumps + 1)) next.places.items
  bumped_ranked = record {
    more = λ v w low low' lt. elim (cases_eq w index) [
      | inl w_is ↦ elim (cases_eq v index) [
        | inl v_is ↦ absurd (omega (arith, lt, active_at v v_is, active_at w w_is))
        | inr v_not ↦ absurd (omega (arith, lt, active_other v v_not, active_at w w_is, stored.at_most v))
      ]
      | inr w_not ↦ elim (cases_eq v index) [
        | inl v_is ↦ omega (
          arith,
          ap (slice_index next.places.items) v_is,
          raises.last w (omega (arith, low', many)) w_not,
        )
        | inr v_not ↦ raises.order w v (omega (arith, low', many)) (omega (arith, low, many)) w_not v_not
            (stored.ranked.more v w (omega (arith, low, many)) (omega (arith, low', many))
            (omega (arith, lt, active_other v v_not, active_other w w_not)))
      ]
    ];
    tie = λ v w low low' same lt. elim (cases_eq w index) [
      | inl w_is ↦
          (let v_not : v ≢ index = omega (arith, lt, w_is) in
          absurd (omega (arith, same, active_at w w_is, active_other v v_not, stored.at_most v)))
      | inr w_not ↦ elim (cases_eq v index) [
        | inl v_is ↦ absurd (omega (arith, same, active_at v v_is, active_other w w_not, stored.at_most w))
        | inr v_not ↦ raises.order w v (omega (arith, low', many)) (omega (arith, low, many)) w_not v_not
            (stored.ranked.tie v w (omega (arith, low, many)) (omega (arith, low', many))
            (omega (arith, same, active_other v v_not, active_other w w_not)) lt)
      ]
    ];
  }

  -- the bound stays behind all that are in
  pub bumped_stored : bumps < 18446744073709551615 → (above : ℕ) → above ≤ next.len
      → (slice_index_or present index false ≡ true → above ≡ next.len)
      → ((place : ℕ) → place < bound → place < next.len → place < above)
      → IsStored (bumps + 1) (set activities index (bumps + 1)) present next above
  bumped_stored fits above within here others =
      let long = length-set activities index (bumps + 1) in
      record {
        few = omega (arith, stored.few, long);
        each_known = omega (arith, stored.each_known, long);
        each_placed = omega (arith, stored.each_placed, many, long);
        counted = omega (arith, fits);
        at_most = λ v. elim (cases_eq v index) [
          | inl v_is ↦ omega (arith, active_at v v_is)
          | inr v_not ↦ omega (arith, active_other v v_not, stored.at_most v)
        ];
        ready = ready;
        ranked = bumped_ranked;
        bounded = within;
        below_bound = λ v low is_in.
            let placed : v < length next.places.items = omega (arith, low, long, stored.each_placed, many) in
            let below = ready.placed.below v placed in
            elim (cases_eq v index) [
              | inl v_is ↦ omega (arith, below, here (ap (λ k. slice_index_or present k false) (sym v_is) ∙ is_in))
              | inr v_not ↦ others (slice_index next.places.items v)
                  (omega (
                    arith,
                    raises.lower v (omega (arith, placed, many)) v_not,
                    stored.below_bound v (omega (arith, low, long)) is_in,
                  ))
                  below
            ];
      }
