-- dead slots are dropped: each live one moves to the next place that is kept
use Rattle.std.proofs.Common.{◌≡◌, ◌≢◌, ℕ, ◌+◌, ◌<◌, ◌≤◌, true, false, eqb, List, [], ◌∷◌, length, set, get_or, take, ap, sym, ◌∙◌, arith, inl, inr, get_or-set_same, get_or-set_other, length-set}
use Rattle.std.specs.Prelude.{slice_index}
use Rattle.std.proofs.lemmas.Bool.{cases_eq, cases_lt}
use Rattle.std.specs.List.{All, list_any}
use Rattle.std.proofs.lemmas.Bool.{or_cases, ne_eqb, eqb-true}
use Rattle.std.proofs.lemmas.List.{length-take-le, get_or-take, get_or_default}
use Rattle.std.proofs.lemmas.List.Elements.{All-head, All-tail}
use Rattle.std.proofs.lemmas.Map.Keys.{IsDistinct-from_apart}
use Rattle.std.proofs.lemmas.Map.Steps.{length-le_from_distinct_below}
use Rattle.gr_heur.specs.Queues.{IsQueue, KeepsOrder}

-- the slots before `at` were looked at, and what is live of them stands before `kept`
pub record IsDropping (old : List ℕ) (from len : ℕ) (slots places : List ℕ) (at kept : ℕ) : Type 0 where
  pub queue : IsQueue slots places len
  pub order : KeepsOrder old places
  pub begun : from ≤ kept
  pub behind : kept ≤ at
  pub at_most : at ≤ len
  pub split : (v : ℕ) → v < length places → kept ≤ slice_index places v → at ≤ slice_index places v
  pub live : (k : ℕ) → from ≤ k → k < kept → slice_index places (slice_index slots k) ≡ k

-- a live slot moves to the next place that is kept
module _ {old : List ℕ} {from len : ℕ} {slots places : List ℕ} {at kept : ℕ}
    (before : IsDropping old from len slots places at kept) (within : at < len)
    (v : ℕ) (is : slice_index slots at ≡ v) (stands_here : slice_index places v ≡ at) where
  known_v : v < length places
  known_v = omega (arith, is, before.queue.known at within)

  in_slots : kept < length slots
  in_slots = omega (arith, before.behind, before.queue.short, within)

  place_v : slice_index (set places v kept) v ≡ kept
  place_v = get_or-set_same places v kept 0 known_v

  place_other : (w : ℕ) → w ≢ v → slice_index (set places v kept) w ≡ slice_index places w
  place_other w apart = get_or-set_other places v w kept 0 apart

  slot_kept : slice_index (set slots kept v) kept ≡ v
  slot_kept = get_or-set_same slots kept v 0 in_slots

  slot_other : (k : ℕ) → k ≢ kept → slice_index (set slots kept v) k ≡ slice_index slots k
  slot_other k apart = get_or-set_other slots kept k v 0 apart

  many : length (set places v kept) ≡ length places
  many = length-set places v kept

  -- no other variable stands in the slot
  not_at : (w : ℕ) → w < length places → w ≢ v → slice_index places w ≢ at
  not_at w low apart here =
      apart (sym (before.queue.stands w low) ∙ ap (slice_index slots) here ∙ is)

  not_kept : (w : ℕ) → w < length places → w ≢ v → slice_index places w ≢ kept
  not_kept w low apart here =
      not_at w low apart (let behind = before.behind in let split = before.split w low in omega arith)

  -- what stands before the slot is kept
  before_at : (w : ℕ) → w < length places → slice_index places w < at → slice_index places w < kept
  before_at w low lt = elim (cases_lt (slice_index places w) kept) [
    | inl near ↦ near
    | inr far ↦ absurd (omega (arith, before.split w low far, lt))
  ]

  moved_known : (k : ℕ) → k < len → slice_index (set slots kept v) k < length (set places v kept)
  moved_known k low = elim (cases_eq k kept) [
    | inl here ↦ omega (arith, ap (slice_index (set slots kept v)) here, slot_kept, known_v, many)
    | inr apart ↦ omega (arith, slot_other k apart, before.queue.known k low, many)
  ]

  moved_below : (w : ℕ) → w < length (set places v kept) → slice_index (set places v kept) w < len
  moved_below w low = elim (cases_eq w v) [
    | inl here ↦ omega (arith, ap (slice_index (set places v kept)) here, place_v, before.behind, within)
    | inr apart ↦ omega (arith, place_other w apart, before.queue.below w (omega (arith, low, many)))
  ]

  moved_stands : (w : ℕ) → w < length (set places v kept)
      → slice_index (set slots kept v) (slice_index (set places v kept) w) ≡ w
  moved_stands w low = elim (cases_eq w v) [
    | inl here ↦ ap (λ q. slice_index (set slots kept v) (slice_index (set places v kept) q)) here
        ∙ ap (slice_index (set slots kept v)) place_v ∙ slot_kept ∙ sym here
    | inr apart ↦
        (let known : w < length places = omega (arith, low, many) in
        ap (slice_index (set slots kept v)) (place_other w apart)
        ∙ slot_other (slice_index places w) (not_kept w known apart) ∙ before.queue.stands w known)
  ]

  moved_order : (a b : ℕ) → a < length old → b < length old → slice_index old a < slice_index old b
      → slice_index (set places v kept) a < slice_index (set places v kept) b
  moved_order a b low low' lt =
      let was = before.order.order a b low low' lt in
      let as_many = before.order.as_many in
      let behind = before.behind in
      elim (cases_eq a v) [
        | inl a_is ↦ (let place_a : slice_index places a ≡ at = ap (slice_index places) a_is ∙ stands_here in
            let now_a : slice_index (set places v kept) a ≡ kept =
            ap (slice_index (set places v kept)) a_is ∙ place_v in
            elim (cases_eq b v) [
              | inl b_is ↦ absurd (omega (arith, was, place_a, ap (slice_index places) b_is, stands_here))
              | inr apart ↦ omega (arith, was, place_a, now_a, place_other b apart, behind)
            ])
        | inr a_apart ↦ elim (cases_eq b v) [
          | inl b_is ↦
              (let place_b : slice_index places b ≡ at = ap (slice_index places) b_is ∙ stands_here in
              let now_b : slice_index (set places v kept) b ≡ kept =
              ap (slice_index (set places v kept)) b_is ∙ place_v in
              let kept_a = before_at a (omega (arith, low, as_many)) (omega (arith, was, place_b)) in
              omega (arith, now_b, place_other a a_apart, kept_a))
          | inr apart ↦ omega (arith, was, place_other a a_apart, place_other b apart)
        ]
      ]

  moved_lower : (w : ℕ) → w < length old → slice_index (set places v kept) w ≤ slice_index old w
  moved_lower w low =
      let was = before.order.lower w low in
      elim (cases_eq w v) [
        | inl here ↦ omega (
          arith,
          ap (slice_index (set places v kept)) here,
          ap (slice_index places) here,
          place_v,
          stands_here,
          before.behind,
          was,
        )
        | inr apart ↦ omega (arith, place_other w apart, was)
      ]

  moved_split : (w : ℕ) → w < length (set places v kept) → kept + 1 ≤ slice_index (set places v kept) w
      → at + 1 ≤ slice_index (set places v kept) w
  moved_split w low far = elim (cases_eq w v) [
    | inl here ↦ absurd (omega (arith, far, ap (slice_index (set places v kept)) here, place_v))
    | inr apart ↦
        (let known : w < length places = omega (arith, low, many) in
        let same = place_other w apart in
        let split = before.split w known in
        let not_here = not_at w known apart in
        omega arith)
  ]

  moved_live : (k : ℕ) → from ≤ k → k < kept + 1
      → slice_index (set places v kept) (slice_index (set slots kept v) k) ≡ k
  moved_live k high low = elim (cases_eq k kept) [
    | inl here ↦ ap (λ q. slice_index (set places v kept) (slice_index (set slots kept v) q)) here
        ∙ ap (slice_index (set places v kept)) slot_kept ∙ place_v ∙ sym here
    | inr apart ↦
        (let live = before.live k high (omega (arith, low, apart)) in
        let behind = before.behind in
        let other : slice_index slots k ≢ v =
        (λ e. let here = ap (slice_index places) e in omega (arith, here, live, stands_here, low, apart, behind)) in
        ap (slice_index (set places v kept)) (slot_other k apart)
        ∙ place_other (slice_index slots k) other ∙ live)
  ]

  -- the live slot is kept
  pub moved : IsDropping old from len (set slots kept v) (set places v kept) (at + 1) (kept + 1)
  moved = record {
    queue = record {
      small = omega (arith, before.queue.small, length-set slots kept v);
      short = omega (arith, before.queue.short, length-set slots kept v);
      known = moved_known;
      below = moved_below;
      stands = moved_stands;
    };
    order = record { as_many = many ∙ before.order.as_many; lower = moved_lower; order = moved_order };
    begun = omega (arith, before.begun);
    behind = omega (arith, before.behind);
    at_most = omega (arith, within);
    split = moved_split;
    live = moved_live;
  }

-- a dead slot is passed over
pub passed : {old : List ℕ} {from len : ℕ} {slots places : List ℕ} {at kept : ℕ}
    → IsDropping old from len slots places at kept → at < len
    → slice_index places (slice_index slots at) ≢ at → IsDropping old from len slots places (at + 1) kept
passed {old} {from} {len} {slots} {places} {at} {kept} before within dead = record {
  queue = before.queue;
  order = before.order;
  begun = before.begun;
  behind = omega (arith, before.behind);
  at_most = omega (arith, within);
  split = λ w low far.
      let split = before.split w low far in
      let not_here : slice_index places w ≢ at = (λ here. dead (ap (λ k. slice_index places (slice_index slots k))
      (sym here) ∙ ap (slice_index places) (before.queue.stands w low) ∙ here)) in
      omega (arith, split, not_here);
  live = before.live;
}

-- numbers that are each below `n` are found below it
all_below : (n : ℕ) (xs : List ℕ) → All (λ x. x < n) xs → (q : ℕ) → list_any (eqb q) xs ≡ true → q < n
all_below n [] all q found = absurd (grind (arith, found))
all_below n (x ∷ xs) all q found =
    elim (or_cases (eqb q x) (list_any (eqb q) xs) found) [
      | inl here ↦ (let low = All-head (λ x. x < n) x xs all in let same = eqb-true q x here in omega arith)
      | inr there ↦ all_below n xs (All-tail (λ x. x < n) x xs all) q there
    ]

-- where all slots before `kept` are live, they are no more than there are variables
pub live_fit : {old : List ℕ} {from len : ℕ} {slots places : List ℕ} {at kept : ℕ}
    → IsDropping old from len slots places at kept → from ≡ 0 → kept ≤ length places
live_fit {old} {from} {len} {slots} {places} {at} {kept} now none =
    let short : kept ≤ length slots = omega (arith, now.behind, now.queue.short, now.at_most) in
    let many : length (take kept slots) ≡ kept = length-take-le kept slots short in
    let read = λ (k d : ℕ) (low : k < kept). get_or-take kept slots k d low
    ∙ get_or_default slots k d 0 (omega (arith, low, short)) in
    let all : All (λ x. x < length places) (take kept slots) =
    λ k d low. (let near : k < kept = omega (arith, low, many) in
    omega (arith, read k d near, now.queue.known k (omega (arith, near, now.behind, now.at_most)))) in
    let apart : (i j d : ℕ) → i < j → j < length (take kept slots)
    → eqb (get_or (take kept slots) i d) (get_or (take kept slots) j d) ≡ false =
    λ i j d lt low. (let near : j < kept = omega (arith, low, many) in
    let near' : i < kept = omega (arith, lt, near) in
    ne_eqb _ _ (λ (e : get_or (take kept slots) i d ≡ get_or (take kept slots) j d).
    let same : slice_index slots i ≡ slice_index slots j = sym (read i d near') ∙ e ∙ read j d near in
    let places_same = ap (slice_index places) same in
    let live_i = now.live i (omega (arith, none)) near' in
    let live_j = now.live j (omega (arith, none)) near in
    omega (arith, places_same, live_i, live_j, lt))) in
    let fits = length-le_from_distinct_below (take kept slots) (length places)
    (IsDistinct-from_apart eqb (take kept slots) apart) (all_below (length places) (take kept slots) all) in
    omega (arith, fits, many)
