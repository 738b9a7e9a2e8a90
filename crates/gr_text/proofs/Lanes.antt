-- the blanks among the lanes of a vector
use Rattle.std.proofs.Common.{◌≡◌, ◌∙◌, ℕ, zero, suc, ◌≤◌, ◌<◌, ◌^◌, ◌%◌, Bool, true, List, [], ◌∷◌, length, take, map, refl, sym, ap, ap₂, arith, inl, inr}
use Rattle.std.specs.List.{prefix_len}
use Rattle.std.proofs.lemmas.List.{length-map}
use Rattle.std.proofs.lemmas.Bool.{agree_below, agree_below_at}
use Rattle.std.proofs.lemmas.Simd.{map-map, mask_l-mod}
use lib.Lanes.{Each1, mask_l, top}
use Rattle.gr_text.specs.Tokens.{is_blank}
use Rattle.gr_text.proofs.Marks.{bool_cases, prefix_len-yes, prefix_len-no}

-- a run that ends within the front of a list is that list's
pub run-in-front : (p : ℕ → Bool) (n : ℕ) (xs : List ℕ) → prefix_len p (take n xs) < n
    → n ≤ length xs → prefix_len p xs ≡ prefix_len p (take n xs)
run-in-front p zero xs less fits = absurd (omega arith)
run-in-front p (suc n) [] less fits = absurd (omega arith)
run-in-front p (suc n) (x ∷ xs) less fits =
    elim (bool_cases (p x)) [
      | inl hit ↦
          let front = prefix_len-yes p x (take n xs) hit in
          let whole = prefix_len-yes p x xs hit in
          let rest = run-in-front p n xs (omega (arith, front, less)) (omega arith) in
          whole ∙ ap suc rest ∙ sym front
      | inr miss ↦ prefix_len-no p x xs miss ∙ sym (prefix_len-no p x (take n xs) miss)
    ]

-- two tests that agree on each byte
same-tests : (p q : ℕ → Bool) (bytes : List ℕ) → Each1 (λ b. b < 2 ^ 8) bytes
    → agree_below p q 256 ≡ true → map p bytes ≡ map q bytes
same-tests p q [] small agree = refl
same-tests p q (b ∷ bs) small agree =
    ap₂ (λ t ts. t ∷ ts) (agree_below_at p q 256 b agree small.0) (same-tests p q bs small.1 agree)

-- the mask of lanes that were computed from sixteen bytes, and whose top bits tell the blanks
pub blank-mask : (bytes : List ℕ) (f : ℕ → ℕ) {lanes : List ℕ} → length bytes ≡ 16
    → Each1 (λ b. b < 2 ^ 8) bytes → lanes ≡ map f bytes
    → agree_below (λ b. top 7 (f b)) is_blank 256 ≡ true →
    mask_l (map (top 7) lanes) % 2 ^ 64 ≡ mask_l (map is_blank bytes)
blank-mask bytes f long small computed agree =
    ap (λ tops. mask_l tops % 2 ^ 64)
    (ap (map (top 7)) computed ∙ map-map (top 7) f bytes
    ∙ same-tests (λ b. top 7 (f b)) is_blank bytes small agree)
    ∙ mask_l-mod (map is_blank bytes) 64 (omega (arith, length-map bytes is_blank, long))
