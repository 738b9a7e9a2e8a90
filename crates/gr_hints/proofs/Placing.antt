-- places that come into a list from both of its ends
use Rattle.std.proofs.Common.{◌≡◌, ◌<◌, ◌≤◌, ℕ, ◌+◌, List, [], ◌∷◌, ◌++◌, take, drop, set, length, get_or, refl, sym, ap, ◌∙◌, subst, arith}
use Rattle.std.specs.List.{AllZip}
use Rattle.std.specs.List.Sorted.{IsPermutation}
use Rattle.std.proofs.lemmas.List.{append_assoc, length-set, take-set-le, take_more_set, drop-set, drop-set-lt, take_all, take-append-drop}
use Rattle.std.proofs.lemmas.List.Elements.{all_zip_more}
use Rattle.std.proofs.lemmas.List.Sorted.{IsPermutation-refl, IsPermutation-trans, IsPermutation-append, IsPermutation-append_right, IsPermutation-append_comm}
use Rattle.gr_trail.specs.Trails.{Assigned}
use Rattle.gr_hints.specs.Positions.{IsPositionOf, ArePlaced}

-- one more element between two parts of a list
between : (qs front back : List ℕ) (x : ℕ) → IsPermutation qs (front ++ back)
    → IsPermutation (qs ++ x ∷ []) (front ++ x ∷ back)
between qs front back x perm =
    IsPermutation-trans (qs ++ x ∷ []) ((front ++ back) ++ x ∷ []) (front ++ x ∷ back)
    (IsPermutation-append qs (front ++ back) (x ∷ []) (x ∷ []) perm (IsPermutation-refl (x ∷ [])))
    (subst (λ ys. IsPermutation ys (front ++ x ∷ back)) (sym (append_assoc front back (x ∷ [])))
    (IsPermutation-append_right front (back ++ x ∷ []) (x ∷ back) (IsPermutation-append_comm back (x ∷ []))))

-- the places before an index and from another one on are those of the first variables
pub record AreSpread (assigned : List Assigned) (vars positions : List ℕ) (index below from : ℕ) : Type 0 where
  pub room : length positions ≡ length vars
  pub apart : below ≤ from
  pub within : from ≤ length positions
  pub count : below + length positions ≡ from + index
  pub each : List ℕ
  pub zip : AllZip (IsPositionOf assigned) (take index vars) each
  pub permuted : IsPermutation each (take below positions ++ drop from positions)

pub spread-none : (assigned : List Assigned) (vars positions : List ℕ) → length positions ≡ length vars
    → AreSpread assigned vars positions 0 0 (length positions)
spread-none assigned vars positions room = record {
  room = room;
  apart = omega arith;
  within = omega arith;
  count = omega arith;
  each = [];
  zip = tt;
  permuted = subst (IsPermutation []) (sym (none positions)) (IsPermutation-refl []);
}
  where
    none : (xs : List ℕ) → drop (length xs) xs ≡ []
    none [] = refl
    none (x ∷ xs) = none xs

-- one more place, between the first ones and the last ones
spread-more : (assigned : List Assigned) (vars old new : List ℕ)
    (index below from under over var position : ℕ)
    → index < length vars → var ≡ get_or vars index var → IsPositionOf assigned var position
    → AreSpread assigned vars old index below from → length new ≡ length old
    → under ≤ over → over ≤ length old → under + length old ≡ over + (index + 1)
    → take under new ++ drop over new ≡ take below old ++ position ∷ drop from old
    → AreSpread assigned vars new (index + 1) under over
spread-more assigned vars old new index below from under over var position low read at s
    long apart within count parts =
    let room = s.room in
    record {
      room = omega arith;
      apart = apart;
      within = omega arith;
      count = omega arith;
      each = s.each ++ position ∷ [];
      zip = all_zip_more (IsPositionOf assigned) vars s.each index var position low read s.zip at;
      permuted = subst (IsPermutation (s.each ++ position ∷ [])) (sym parts)
          (between s.each (take below old) (drop from old) position s.permuted);
    }

-- one more place behind the first ones
pub spread-below : (assigned : List Assigned) (vars old new : List ℕ)
    (index below from var position : ℕ)
    → index < length vars → var ≡ get_or vars index var → IsPositionOf assigned var position
    → new ≡ set old below position → AreSpread assigned vars old index below from
    → AreSpread assigned vars new (index + 1) (below + 1) from
spread-below assigned vars old new index below from var position low read at is s =
    let room = s.room in
    let count = s.count in
    let within = s.within in
    spread-more assigned vars old new index below from (below + 1) from var position low read at s
    (ap length is ∙ length-set old below position)
    (omega arith) (omega arith) (omega arith) parts
  where
    parts : take (below + 1) new ++ drop from new ≡ take below old ++ position ∷ drop from old
    parts =
        let room = s.room in
        let count = s.count in
        let within = s.within in
        ap (λ xs. take (below + 1) xs ++ drop from xs) is
        ∙ ap (λ xs. xs ++ drop from (set old below position)) (take_more_set old below position (omega arith))
        ∙ ap (λ xs. (take below old ++ position ∷ []) ++ xs) (drop-set-lt from old below position (omega arith))
        ∙ append_assoc (take below old) (position ∷ []) (drop from old)

-- one more place before the last ones
pub spread-from : (assigned : List Assigned) (vars old new : List ℕ) (index below from before var position : ℕ)
    → index < length vars → var ≡ get_or vars index var → IsPositionOf assigned var position
    → from ≡ before + 1 → new ≡ set old before position → AreSpread assigned vars old index below from
    → AreSpread assigned vars new (index + 1) below before
spread-from assigned vars old new index below from before var position low read at one is s =
    let room = s.room in
    let count = s.count in
    let within = s.within in
    spread-more assigned vars old new index below from below before var position low read at s
    (ap length is ∙ length-set old before position)
    (omega arith) (omega arith) (omega arith) parts
  where
    parts : take below new ++ drop before new ≡ take below old ++ position ∷ drop from old
    parts =
        let room = s.room in
        let count = s.count in
        let within = s.within in
        ap (λ xs. take below xs ++ drop before xs) is
        ∙ ap (λ xs. xs ++ drop before (set old before position)) (take-set-le below old before position (omega arith))
        ∙ ap (λ xs. take below old ++ xs) (drop-set old before position (omega arith))
        ∙ ap (λ n. take below old ++ position ∷ drop n old) (sym one)

-- all places are there
pub spread-all : (assigned : List Assigned) (vars positions : List ℕ) (index below from : ℕ) → length vars ≤ index
    → index ≤ length vars → AreSpread assigned vars positions index below from → ArePlaced assigned vars positions
spread-all assigned vars positions index below from high low s =
    let room = s.room in
    let count = s.count in
    let same : from ≡ below = omega arith in
    record {
      each = s.each;
      zip = subst (λ vs. AllZip (IsPositionOf assigned) vs s.each) (take_all index vars high) s.zip;
      permuted = subst (IsPermutation s.each) (ap (λ n. take below positions ++ drop n positions) same
          ∙ take-append-drop below positions) s.permuted;
    }
