-- tokens as numbers
use Rattle.std.specs.Prelude.{ℕ, ◌+◌, ◌*◌, ◌-◌, ◌^◌, Bool, false, ◌&&◌, nat_le, min, if◌then◌else◌, List, [], ◌∷◌, Option, Some, None}
use Rattle.std.specs.List.{list_all}

-- the code of a decimal digit
abbrev pub is_digit : ℕ → Bool
is_digit b = nat_le 48 b && nat_le b 57

-- the value of digits that follow those of a number
abbrev pub value_after : ℕ → List ℕ → ℕ
value_after n [] = n
value_after n (d ∷ ds) = value_after (10 * n + (d - 48)) ds

-- the value of digits
abbrev pub value : List ℕ → ℕ
value ds = value_after 0 ds

-- one or more digits
abbrev pub is_count : List ℕ → Bool
is_count [] = false
is_count (b ∷ bs) = list_all is_digit (b ∷ bs)

-- the value of a token's digits, up to 2^63
abbrev pub capped_count : List ℕ → Option ℕ
capped_count w = if is_count w then Some (min (value w) (2 ^ 63)) else None
