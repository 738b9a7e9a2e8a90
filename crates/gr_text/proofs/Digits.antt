-- numbers in decimal are read by their value
use Rattle.std.proofs.Common.{◌≡◌, ℕ, ◌^◌, ◌<◌, true, List, [], ◌∷◌, length, arith, rules}
use Rattle.std.specs.List.{list_all}
use Rattle.std.specs.Fmt.{decimal}
use Rattle.std.proofs.lemmas.Fmt.{digits_decimal, digits_value-decimal, decimal_nonempty}
use Rattle.std.proofs.lemmas.Str.Parse.{IsNumeralModel, numerals_by_fold}
use Rattle.gr_text.specs.Numerals.{is_digit, value, value_after, is_count}

-- these digits and values are those of std
own : IsNumeralModel (λ ds. list_all is_digit ds ≡ true) (value_after 0)
own = numerals_by_fold _ (search rules) value_after (search rules)

all-count : (ds : List ℕ) → list_all is_digit ds ≡ true → 0 < length ds → is_count ds ≡ true
all-count [] all some = absurd (omega arith)
all-count (d ∷ ds) all some = all

pub decimal-is-count : (n : ℕ) → n < 2 ^ 64 → is_count (decimal n) ≡ true
decimal-is-count n small =
    all-count (decimal n) (digits_decimal own n small) (decimal_nonempty n small)

pub value-decimal : (n : ℕ) → n < 2 ^ 64 → value (decimal n) ≡ n
value-decimal n small = digits_value-decimal own n small
