-- numbers in decimal are read by their value
use Rattle.std.proofs.Common.{◌≡◌, ◌∙◌, ℕ, suc, ◌+◌, ◌-◌, ◌^◌, ◌≤◌, ◌<◌, Bool, true, false, ◌&&◌, List, [], ◌∷◌, refl, ap, arith, nat_eq, nat_le}
use Rattle.std.specs.List.{list_all}
use Rattle.std.specs.Fmt.{decimal, signed_decimal}
use Rattle.std.proofs.lemmas.Bool.{leb-true}
use Rattle.std.proofs.lemmas.Grind.{common_steps}
use Rattle.gr_logic.specs.Literals.{number_of}
use Rattle.gr_text.proofs.Digits.{decimal-is-count, value-decimal}
use Rattle.gr_dimacs.specs.Numbers.{Lit, is_digit, value, is_count, sized, number}

both-true : (a b : Bool) → (a && b) ≡ true → (a ≡ true) × (b ≡ true)
both-true true b h = (refl, h)
both-true false b h = absurd (cc)

-- a digit is no minus sign
digit-no-minus : (b : ℕ) → is_digit b ≡ true → nat_eq b 45 ≡ false
digit-no-minus b h =
    let low : nat_le 48 b ≡ true = (both-true (nat_le 48 b) (nat_le b 57) h).0 in
    let above : 48 ≤ b = leb-true 48 b low in
    grind (arith, common_steps)

number-count : (ds : List ℕ) → is_count ds ≡ true → number ds ≡ sized true (value ds)
number-count [] h = absurd (cc)
number-count (d ∷ ds) h =
    let first : is_digit d ≡ true = (both-true (is_digit d) (list_all is_digit ds) h).0 in
    let plain = digit-no-minus d first in
    rw (plain, h) refl

negative-count : (ds : List ℕ) → is_count ds ≡ true → number (45 ∷ ds) ≡ sized false (value ds)
negative-count ds h = rw h refl

sized-literal : (positive : Bool) (index : ℕ) →
    sized positive (suc index) ≡ Lit (record { index = index; positive = positive })
sized-literal positive index =
    let some : nat_eq (suc index) 0 ≡ false = grind (arith, common_steps) in
    let less : suc index - 1 ≡ index = omega arith in
    rw (some, less) refl

-- a literal in decimal is read as this literal
pub number-literal : (positive : Bool) (index : ℕ) → index < 2 ^ 63 →
    number (signed_decimal (number_of (record { index = index; positive = positive }))) ≡ Lit
    (record { index = index; positive = positive })
number-literal true index small =
    let next : index + 1 ≡ suc index = omega arith in
    rw next (number-count (decimal (suc index)) (decimal-is-count (suc index) (omega arith))
    ∙ ap (sized true) (value-decimal (suc index) (omega arith)) ∙ sized-literal true index)
number-literal false index small =
    negative-count (decimal (suc index)) (decimal-is-count (suc index) (omega arith))
    ∙ ap (sized false) (value-decimal (suc index) (omega arith)) ∙ sized-literal false index
