-- written numbers are read by their value
use Rattle.std.proofs.Common.{◌≡◌, ◌∙◌, ℕ, suc, ◌+◌, ◌-◌, ◌^◌, ◌≤◌, ◌<◌, Bool, true, false, ◌&&◌, List, [], ◌∷◌, refl, arith, nat_eq, nat_le, inl, inr, Some}
use Rattle.std.specs.List.{list_all}
use Rattle.std.specs.Fmt.{decimal, signed_decimal}
use Rattle.std.proofs.lemmas.Bool.{leb-true, le-leb}
use Rattle.std.proofs.lemmas.Grind.{common_steps}
use Rattle.gr_logic.specs.Literals.{number_of}
use Rattle.gr_logic.specs.Log.{IsId}
use Rattle.gr_text.specs.Tokens.{is_space, is_line_feed}
use Rattle.gr_lrat.specs.Numerals.{is_digit, value, is_count, is_up_to, id_of, literal_said, signed_literal}
use Rattle.gr_lrat.specs.Lines.{is_byte, begins_comment}
use Rattle.gr_lrat.proofs.Counted.{bool_cases}
use Rattle.gr_text.proofs.Digits.{decimal-is-count, value-decimal}
use Rattle.gr_text.proofs.Words.{HasNoBlank, IsWord}

both_true : (a b : Bool) → (a && b) ≡ true → (a ≡ true) × (b ≡ true)
both_true true b h = (refl, h)
both_true false b h = absurd (cc)

up_to : (most n : ℕ) → 1 ≤ n → n ≤ most → is_up_to most n ≡ true
up_to most n low high =
    let a : nat_le 1 n ≡ true = le-leb 1 n low in
    let b : nat_le n most ≡ true = le-leb n most high in
    rw (a, b) refl

-- a written id is read as this id
pub id_of-decimal : (id : ℕ) → IsId id → id_of (decimal id) ≡ Some id
id_of-decimal id is_id =
    let count : is_count (decimal id) ≡ true = decimal-is-count id (omega (arith, is_id.1)) in
    let same : value (decimal id) ≡ id = value-decimal id (omega (arith, is_id.1)) in
    let fits : is_up_to (2 ^ 63 - 1) id ≡ true = up_to (2 ^ 63 - 1) id is_id.0 (omega (
      arith,
      is_id.1,
    )) in
    rw (count, same, fits) refl

-- a digit is no blank, and none of the letters
digit_plain : (b : ℕ) → is_digit b ≡ true →
    (is_space b ≡ false) × (is_line_feed b ≡ false) × (nat_eq b 99 ≡ false) × (nat_eq b 100
    ≡ false) × (nat_eq b 45 ≡ false)
digit_plain b h =
    let bounds = both_true (nat_le 48 b) (nat_le b 57) h in
    let low : 48 ≤ b = leb-true 48 b bounds.0 in
    let high : b ≤ 57 = leb-true b 57 bounds.1 in
    let no_space : nat_eq b 32 ≡ false = grind (arith, common_steps) in
    let no_tab : nat_eq b 9 ≡ false = grind (arith, common_steps) in
    let no_return : nat_eq b 13 ≡ false = grind (arith, common_steps) in
    let no_feed : nat_eq b 10 ≡ false = grind (arith, common_steps) in
    let no_c : nat_eq b 99 ≡ false = grind (arith, common_steps) in
    let no_d : nat_eq b 100 ≡ false = grind (arith, common_steps) in
    let no_minus : nat_eq b 45 ≡ false = grind (arith, common_steps) in
    (rw (no_space, no_tab, no_return) refl, no_feed, no_c, no_d, no_minus)

digits_plain : (ds : List ℕ) → list_all is_digit ds ≡ true → HasNoBlank ds
digits_plain [] h = tt
digits_plain (d ∷ ds) h =
    let both = both_true (is_digit d) (list_all is_digit ds) h in
    let plain = digit_plain d both.0 in
    (plain.0, plain.1, digits_plain ds both.1)

-- the byte 0 alone has the value 0
zero_value : (w : List ℕ) → is_byte 48 w ≡ true → value w ≡ 0
zero_value [] h = refl
zero_value (b ∷ []) h =
    let both = both_true (nat_eq b 48) true h in
    let same : b ≡ 48 = grind (arith, common_steps) in
    rw same refl
zero_value (b ∷ d ∷ w) h = absurd (cc (both_true (nat_eq b 48) false h).1)

no_zero : (w : List ℕ) → 1 ≤ value w → is_byte 48 w ≡ false
no_zero w some = elim (bool_cases (is_byte 48 w)) [
  | inl h ↦ absurd (omega (arith, zero_value w h))
  | inr h ↦ h
]

-- a word of a log that is a number other than 0
pub record IsNumber (w : List ℕ) : Type 0 where
  pub word : IsWord w
  pub no_comment : begins_comment w ≡ false
  pub no_letter : is_byte 100 w ≡ false
  pub no_zero : is_byte 48 w ≡ false

and_false : (a : Bool) → (false && a) ≡ false
and_false a = refl

count_number : (ds : List ℕ) → is_count ds ≡ true → 1 ≤ value ds → IsNumber ds
count_number [] h some = absurd (cc)
count_number (d ∷ ds) h some =
    let both = both_true (is_digit d) (list_all is_digit ds) h in
    let plain = digit_plain d both.0 in
    let letter = plain.3 in
    record {
      word = digits_plain (d ∷ ds) h;
      no_comment = plain.2;
      no_letter = rw letter refl;
      no_zero = no_zero (d ∷ ds) some;
    }

minus_number : (ds : List ℕ) → is_count ds ≡ true → IsNumber (45 ∷ ds)
minus_number [] h = absurd (cc)
minus_number (d ∷ ds) h = record {
  word = (refl, refl, digits_plain (d ∷ ds) h);
  no_comment = refl;
  no_letter = refl;
  no_zero = refl;
}

-- a written id is a number
pub id_number : (id : ℕ) → IsId id → IsNumber (decimal id)
id_number id is_id =
    count_number (decimal id) (decimal-is-count id (omega (arith, is_id.1))) (omega (
      arith,
      is_id.0,
      value-decimal id (omega (arith, is_id.1)),
    ))

-- a written literal is a number
pub literal_number : (positive : Bool) (index : ℕ) → index < 1_000_000 →
    IsNumber (signed_decimal (number_of (record { index = index; positive = positive })))
literal_number true index small =
    count_number (decimal (index + 1)) (decimal-is-count (index + 1) (omega arith)) (omega (
      arith,
      value-decimal (index + 1) (omega arith),
    ))
literal_number false index small = minus_number (decimal (suc index)) (decimal-is-count (suc index)
    (omega arith))

signed_count : (positive : Bool) (index : ℕ) (ds : List ℕ) → is_count ds ≡ true →
    value ds ≡ suc index → index < 1_000_000 →
    signed_literal positive ds ≡ Some (record { index = index; positive = positive })
signed_count positive index ds count same small =
    let fits : is_up_to 1_000_000 (suc index) ≡ true = up_to 1_000_000 (suc index) (omega arith)
    (omega arith) in
    let less : suc index - 1 ≡ index = omega arith in
    rw (count, same, fits, less) refl

literal_count : (ds : List ℕ) → is_count ds ≡ true → literal_said ds ≡ signed_literal true ds
literal_count [] h = absurd (cc)
literal_count (d ∷ ds) h =
    let plain = digit_plain d (both_true (is_digit d) (list_all is_digit ds) h).0 in
    let minus = plain.4 in
    rw minus refl

-- a written literal is read as this literal
pub literal_said-number : (positive : Bool) (index : ℕ) → index < 1_000_000 →
    literal_said (signed_decimal (number_of (record { index = index; positive = positive })))
    ≡ Some (record { index = index; positive = positive })
literal_said-number true index small =
    let count = decimal-is-count (index + 1) (omega arith) in
    literal_count (decimal (index + 1)) count
    ∙ signed_count true index (decimal (index + 1)) count (value-decimal (index + 1) (omega arith) ∙
    (omega arith)) small
literal_said-number false index small =
    signed_count false index (decimal (suc index)) (decimal-is-count (suc index) (omega arith))
    (value-decimal (suc index) (omega arith)) small
