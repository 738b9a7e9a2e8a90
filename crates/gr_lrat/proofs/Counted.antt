-- numbers of which no more than a limit matters
use Rattle.std.proofs.Common.{◌≡◌, ℕ, zero, suc, ◌-◌, ◌^◌, ◌≤◌, ◌<◌, ◌⊎◌, inl, inr, Bool, true, false, List, refl, arith, min, Option, Some, None, is_some, if◌then◌else◌}
use Rattle.std.proofs.lemmas.Bool.Decides.{nat_tests}
use Rattle.gr_lrat.specs.Numerals.{value, is_count, is_up_to, id_of}
use Rattle.gr_lrat.specs.Counts.{capped_count, id_of_count}

-- of two numbers one is not above the other
le_or_lt : (m n : ℕ) → (m ≤ n) ⊎ (n < m)
le_or_lt zero n = inl (omega arith)
le_or_lt (suc m) zero = inr (omega arith)
le_or_lt (suc m) (suc n) = elim (le_or_lt m n) [
  | inl h ↦ inl (omega arith)
  | inr h ↦ inr (omega
      arith)
]

-- a truth value is one of two
pub bool_cases : (b : Bool) → (b ≡ true) ⊎ (b ≡ false)
bool_cases true = inl refl
bool_cases false = inr refl

capped_up_to : (v : ℕ) → (if is_up_to (2 ^ 63 - 1) (min v (2 ^ 63)) then Some (min v (2 ^ 63)) else
    None) ≡ (if is_up_to (2 ^ 63 - 1) v then Some v else None)
capped_up_to v = elim (le_or_lt v (2 ^ 63)) [
  | inl h ↦ let same : min v (2 ^ 63) ≡ v = omega arith in rw same refl
  | inr h ↦ grind (arith, nat_tests)
]

-- the id of a capped value is the token's
pub counted_id : (w : List ℕ) → id_of_count (capped_count w) ≡ id_of w
counted_id w = elim (bool_cases (is_count w)) [
  | inl number ↦ rw number (capped_up_to (value w))
  | inr other ↦ rw other refl
]

-- a token has a value exactly where it is a number
pub numbered : (w : List ℕ) (first : Option ℕ) → first ≡ capped_count w → is_some first ≡ is_count w
numbered w first e = rw e (elim (bool_cases (is_count w)) [
  | inl number ↦ rw number refl
  | inr other ↦ rw other refl
])
