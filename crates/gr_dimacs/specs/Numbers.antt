-- tokens as numbers
use Rattle.std.specs.Prelude.{ℕ, ◌-◌, Bool, true, false, nat_eq, if◌then◌else◌, List, [], ◌∷◌}
pub use Rattle.gr_text.specs.Numerals.{is_digit, value_after, value, is_count}
use Rattle.gr_logic.specs.Literals.{Literal}

-- what a token says: the end of a clause, a literal, or neither
pub data Number : Type 0 where
  Zero : Number
  Lit : Literal → Number
  Other : Number

-- a number of this size and sign: zero, with either sign, ends a clause
abbrev pub sized : Bool → ℕ → Number
sized positive n = if nat_eq n 0 then Zero else Lit (record { index = n - 1; positive = positive })

-- digits of this sign, or no number
abbrev pub digits_number : Bool → List ℕ → Number
digits_number positive ds = if is_count ds then sized positive (value ds) else Other

-- what a token says: digits, with a minus sign before them or not
abbrev pub number : List ℕ → Number
number [] = Other
number (b ∷ bs) = if nat_eq b 45 then digits_number false bs else digits_number true (b ∷ bs)

-- the token begins with this byte
abbrev pub begins : ℕ → List ℕ → Bool
begins c [] = false
begins c (b ∷ bs) = nat_eq b c
