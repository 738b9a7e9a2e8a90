-- a variable that is as active as any moves before those of lesser number
use Rattle.std.proofs.Common.{◌≡◌, ◌≢◌, ℕ, ◌-◌, ◌<◌, List, length, set, ap, sym, ◌∙◌, arith, inl, inr, get_or-set_same, get_or-set_other, length-set}
use Rattle.std.specs.Prelude.{slice_index}
use Rattle.std.proofs.lemmas.Bool.{cases_eq}
use Rattle.gr_heur.specs.Queues.{IsQueue, IsRankedBut}

-- the others are in order, and those behind the variable are as active and of lesser number
pub record IsSettling (activities : List ℕ) (index : ℕ) (slots places : List ℕ) (len at : ℕ) : Type 0 where
  pub queue : IsQueue slots places len
  pub stands : slice_index places index ≡ at
  pub others : IsRankedBut index activities places
  pub as_active : (w : ℕ) → w < length places → w ≢ index → at < slice_index places w
      → slice_index activities w ≡ slice_index activities index
  pub lesser : (w : ℕ) → w < length places → w ≢ index → at < slice_index places w → w < index

-- the slot before is live: its variable and this one change places
module _ {activities : List ℕ} {index : ℕ} {slots places : List ℕ} {len at : ℕ}
    (now : IsSettling activities index slots places len at) (known : index < length places) (some : 0 < at)
    (below : ℕ) (is : slice_index slots (at - 1) ≡ below) where
  known_below : below < length places
  known_below = omega (
    arith,
    is,
    now.queue.known (at - 1) (omega (arith, some, now.stands, now.queue.below index known)),
  )

  at_slot : at < length slots
  at_slot = omega (arith, now.queue.short, now.stands, now.queue.below index known)

  -- no other variable stands in the two slots
  not_at : (w : ℕ) → w < length places → w ≢ index → slice_index places w ≢ at
  not_at w low apart here =
      apart (sym (now.queue.stands w low) ∙ ap (slice_index slots) (here ∙ sym now.stands)
      ∙ now.queue.stands index known)

  not_before : (w : ℕ) → w < length places → w ≢ below → slice_index places w ≢ at - 1
  not_before w low apart here =
      apart (sym (now.queue.stands w low) ∙ ap (slice_index slots) here ∙ is)

  abbrev slots' : List ℕ
  slots' = set (set slots at below) (at - 1) index

  slot_before : slice_index slots' (at - 1) ≡ index
  slot_before = get_or-set_same (set slots at below) (at - 1) index 0
      (omega (arith, length-set slots at below, at_slot))

  slot_at : slice_index slots' at ≡ below
  slot_at = get_or-set_other (set slots at below) (at - 1) at index 0 (omega (arith, some))
      ∙ get_or-set_same slots at below 0 at_slot

  slot_other : (k : ℕ) → k ≢ at → k ≢ at - 1 → slice_index slots' k ≡ slice_index slots k
  slot_other k apart apart' = get_or-set_other (set slots at below) (at - 1) k index 0 apart'
      ∙ get_or-set_other slots at k below 0 apart

  slots_long : length slots' ≡ length slots
  slots_long = length-set (set slots at below) (at - 1) index ∙ length-set slots at below

  slot_known : (k : ℕ) → k < len → slice_index slots' k < length places
  slot_known k low = elim (cases_eq k at) [
    | inl here ↦ omega (arith, ap (slice_index slots') here, slot_at, known_below)
    | inr apart ↦ elim (cases_eq k (at - 1)) [
      | inl here ↦ omega (arith, ap (slice_index slots') here, slot_before, known)
      | inr apart' ↦ omega (arith, slot_other k apart apart', now.queue.known k low)
    ]
  ]

  -- the slot before is dead
  module _ (dead : slice_index places below ≢ at - 1) where
    abbrev places₁ : List ℕ
    places₁ = set places index (at - 1)

    place_index : slice_index places₁ index ≡ at - 1
    place_index = get_or-set_same places index (at - 1) 0 known

    place_other : (w : ℕ) → w ≢ index → slice_index places₁ w ≡ slice_index places w
    place_other w apart = get_or-set_other places index w (at - 1) 0 apart

    many : length places₁ ≡ length places
    many = length-set places index (at - 1)

    not_there : (w : ℕ) → w < length places → slice_index places w ≢ at - 1
    not_there w low here = dead (ap (slice_index places)
        (sym is ∙ ap (slice_index slots) (sym here) ∙ now.queue.stands w low) ∙ here)

    dead_below : (w : ℕ) → w < length places₁ → slice_index places₁ w < len
    dead_below w low = elim (cases_eq w index) [
      | inl here ↦ omega (
        arith,
        ap (slice_index places₁) here,
        place_index,
        now.stands,
        now.queue.below index known,
      )
      | inr apart ↦ omega (arith, place_other w apart, now.queue.below w (omega (arith, low, many)))
    ]

    dead_stands : (w : ℕ) → w < length places₁ → slice_index slots' (slice_index places₁ w) ≡ w
    dead_stands w low = elim (cases_eq w index) [
      | inl here ↦ ap (λ q. slice_index slots' (slice_index places₁ q)) here
          ∙ ap (slice_index slots') place_index ∙ slot_before ∙ sym here
      | inr apart ↦
          (let low' : w < length places = omega (arith, low, many) in
          ap (slice_index slots') (place_other w apart)
          ∙ slot_other (slice_index places w) (not_at w low' apart) (not_there w low') ∙ now.queue.stands w low')
    ]

    -- what stands behind the new place stood behind the old one
    dead_behind : (w : ℕ) → w < length places₁ → w ≢ index → at - 1 < slice_index places₁ w
        → at < slice_index places w
    dead_behind w low apart far =
        let not_here = not_at w (omega (arith, low, many)) apart in
        omega (arith, place_other w apart, far, some, not_here)

    pub passed_dead : IsSettling activities index slots' places₁ len (at - 1)
    passed_dead = record {
      queue = record {
        small = omega (arith, now.queue.small, slots_long);
        short = omega (arith, now.queue.short, slots_long);
        known = λ k low. omega (arith, slot_known k low, many);
        below = dead_below;
        stands = dead_stands;
      };
      stands = place_index;
      others = record {
        more = λ v w low low' apart apart' lt. omega (
          arith,
          place_other v apart,
          place_other w apart',
          now.others.more v w (omega (arith, low, many)) (omega (arith, low', many)) apart apart' lt,
        );
        tie = λ v w low low' apart apart' same lt. omega (
          arith,
          place_other v apart,
          place_other w apart',
          now.others.tie v w (omega (arith, low, many)) (omega (arith, low', many)) apart apart' same lt,
        );
      };
      as_active = λ w low apart far.
          now.as_active w (omega (arith, low, many)) apart (dead_behind w low apart far);
      lesser = λ w low apart far.
          now.lesser w (omega (arith, low, many)) apart (dead_behind w low apart far);
    }

  -- the slot before is live, and its variable is as active and of lesser number
  module _ (live : slice_index places below ≡ at - 1)
      (same_active : slice_index activities below ≡ slice_index activities index) (less : below < index) where
    abbrev places₂ : List ℕ
    places₂ = set (set places below at) index (at - 1)

    many' : length places₂ ≡ length places
    many' = length-set (set places below at) index (at - 1) ∙ length-set places below at

    place_index' : slice_index places₂ index ≡ at - 1
    place_index' = get_or-set_same (set places below at) index (at - 1) 0
        (omega (arith, known, length-set places below at))

    place_below : slice_index places₂ below ≡ at
    place_below = get_or-set_other (set places below at) index below (at - 1) 0 (omega (arith, less))
        ∙ get_or-set_same places below at 0 known_below

    place_other' : (w : ℕ) → w ≢ index → w ≢ below → slice_index places₂ w ≡ slice_index places w
    place_other' w apart apart' = get_or-set_other (set places below at) index w (at - 1) 0 apart
        ∙ get_or-set_other places below w at 0 apart'

    live_below : (w : ℕ) → w < length places₂ → slice_index places₂ w < len
    live_below w low = elim (cases_eq w index) [
      | inl here ↦ omega (
        arith,
        ap (slice_index places₂) here,
        place_index',
        now.stands,
        now.queue.below index known,
      )
      | inr apart ↦ elim (cases_eq w below) [
        | inl here ↦ omega (
          arith,
          ap (slice_index places₂) here,
          place_below,
          now.stands,
          now.queue.below index known,
        )
        | inr apart' ↦ omega (arith, place_other' w apart apart', now.queue.below w (omega (arith, low, many')))
      ]
    ]

    live_stands : (w : ℕ) → w < length places₂ → slice_index slots' (slice_index places₂ w) ≡ w
    live_stands w low = elim (cases_eq w index) [
      | inl here ↦ ap (λ q. slice_index slots' (slice_index places₂ q)) here
          ∙ ap (slice_index slots') place_index' ∙ slot_before ∙ sym here
      | inr apart ↦ elim (cases_eq w below) [
        | inl here ↦ ap (λ q. slice_index slots' (slice_index places₂ q)) here
            ∙ ap (slice_index slots') place_below ∙ slot_at ∙ sym here
        | inr apart' ↦
            (let low' : w < length places = omega (arith, low, many') in
            ap (slice_index slots') (place_other' w apart apart')
            ∙ slot_other (slice_index places w) (not_at w low' apart) (not_before w low' apart')
            ∙ now.queue.stands w low')
      ]
    ]

    -- the order of two others stays
    live_order : (v w : ℕ) → v < length places → w < length places → v ≢ index → w ≢ index
        → slice_index places w < slice_index places v → slice_index places₂ w < slice_index places₂ v
    live_order v w low low' apart apart' lt = elim (cases_eq v below) [
      | inl v_is ↦ elim (cases_eq w below) [
        | inl w_is ↦ absurd (omega (arith, lt, ap (slice_index places) v_is, ap (slice_index places) w_is))
        | inr w_not ↦ omega (
          arith,
          lt,
          ap (slice_index places) v_is,
          ap (slice_index places₂) v_is,
          live,
          place_below,
          place_other' w apart' w_not,
        )
      ]
      | inr v_not ↦ elim (cases_eq w below) [
        | inl w_is ↦
            (let not_here = not_at v low apart in
            omega (
              arith,
              lt,
              ap (slice_index places) w_is,
              ap (slice_index places₂) w_is,
              live,
              some,
              place_below,
              place_other' v apart v_not,
              not_here,
            ))
        | inr w_not ↦ omega (arith, lt, place_other' v apart v_not, place_other' w apart' w_not)
      ]
    ]

    -- what stands behind the new place is `below`, or stood behind the old one
    live_behind : (w : ℕ) → w < length places₂ → w ≢ index → w ≢ below → at - 1 < slice_index places₂ w
        → at < slice_index places w
    live_behind w low apart apart' far =
        let not_here = not_at w (omega (arith, low, many')) apart in
        omega (arith, place_other' w apart apart', far, some, not_here)

    pub swapped : IsSettling activities index slots' places₂ len (at - 1)
    swapped = record {
      queue = record {
        small = omega (arith, now.queue.small, slots_long);
        short = omega (arith, now.queue.short, slots_long);
        known = λ k low. omega (arith, slot_known k low, many');
        below = live_below;
        stands = live_stands;
      };
      stands = place_index';
      others = record {
        more = λ v w low low' apart apart' lt.
            (let known_v : v < length places = omega (arith, low, many') in
            let known_w : w < length places = omega (arith, low', many') in
            live_order v w known_v known_w apart apart' (now.others.more v w known_v known_w apart apart' lt));
        tie = λ v w low low' apart apart' same lt.
            (let known_v : v < length places = omega (arith, low, many') in
            let known_w : w < length places = omega (arith, low', many') in
            live_order v w known_v known_w apart apart' (now.others.tie v w known_v known_w apart apart' same lt));
      };
      as_active = λ w low apart far. elim (cases_eq w below) [
        | inl here ↦ ap (slice_index activities) here ∙ same_active
        | inr apart' ↦ now.as_active w (omega (arith, low, many')) apart (live_behind w low apart apart' far)
      ];
      lesser = λ w low apart far. elim (cases_eq w below) [
        | inl here ↦ omega (arith, here, less)
        | inr apart' ↦ now.lesser w (omega (arith, low, many')) apart (live_behind w low apart apart' far)
      ];
    }
