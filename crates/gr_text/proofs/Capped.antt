-- the values of digits, up to a cap
use Rattle.std.proofs.Common.{◌≡◌, ℕ, zero, suc, ◌+◌, ◌*◌, ◌-◌, ◌^◌, ◌≤◌, ◌<◌, ◌⊎◌, inl, inr, List, [], ◌∷◌, refl, arith, length, min, true, false, nat_le, ◌==◌, add-one, pow-suc, Option, Some, None, MatchOption}
use Rattle.std.proofs.Math.Nat.{pow-le-pow_right}
use Rattle.std.proofs.lemmas.Bool.{le-leb}
use Rattle.std.specs.List.{list_all}
use Rattle.gr_text.specs.Numerals.{capped_count, value, value_after, is_count, is_digit}

pub value_after-le : (ds : List ℕ) (n : ℕ) → n ≤ value_after n ds
value_after-le [] n = omega arith
value_after-le (d ∷ ds) n = omega (arith, value_after-le ds (10 * n + (d - 48)))

le-or-lt : (m n : ℕ) → (m ≤ n) ⊎ (n < m)
le-or-lt zero n = inl (omega arith)
le-or-lt (suc m) zero = inr (omega arith)
le-or-lt (suc m) (suc n) =
    elim (le-or-lt m n) [ inl h ↦ inl (omega arith) | inr h ↦ inr (omega arith) ]

pub capped : (ds : List ℕ) (m cap : ℕ) →
    min (value_after (min m cap) ds) cap ≡ min (value_after m ds) cap
capped ds m cap = elim (le-or-lt m cap) [
  | inl h ↦ let same : min m cap ≡ m = omega arith in rw same refl
  | inr h ↦
      let top : min m cap ≡ cap = omega arith in
      rw top (omega (arith, value_after-le ds cap, value_after-le ds m))
]

pub digit-is : (b : ℕ) → 48 ≤ b → b ≤ 57 → is_digit b ≡ true
digit-is b low high =
    let a : nat_le 48 b ≡ true = le-leb 48 b low in
    let c : nat_le b 57 ≡ true = le-leb b 57 high in
    rw (a, c) refl

-- a number of few digits is below a power of ten
pub below-power : (size digits most : ℕ) → size < 10 ^ digits → digits ≤ most → size < 10 ^ most
below-power size digits most below few =
    let powers : 10 ^ digits ≤ 10 ^ most = pow-le-pow_right (omega arith) few in
    omega (arith, powers)

-- with one more digit the number has one more digit
pub one-more-digit : (size digits digit : ℕ) → size < 10 ^ digits → digit ≤ 9 →
    10 * size + digit < 10 ^ (digits + 1)
one-more-digit size digits digit below small =
    let more : 10 ^ (digits + 1) ≡ 10 ^ digits * 10 = rw add-one (pow-suc 10 digits) in
    omega (arith, more)

-- digits of which the value is below the cap
pub counted-whole : (ds : List ℕ) (size : ℕ) → (length ds == 0) ≡ false →
    list_all is_digit ds ≡ true → value ds ≡ size → size < 2 ^ 63 →
    (is_count ds ≡ true) × (size ≡ min (value ds) (2 ^ 63))
counted-whole [] size some all same small = absurd (cc)
counted-whole (d ∷ ds) size some all same small = (all, omega arith)

-- what digits are says what their capped value is
pub capped_is : (w : List ℕ) (o : Option ℕ)
    → MatchOption o (is_count w ≡ false) (λ n. (is_count w ≡ true) × (n ≡ min (value w) (2 ^ 63)))
    → o ≡ capped_count w
capped_is w None other = rw other refl
capped_is w (Some n) is = rw (is.0, is.1) refl
