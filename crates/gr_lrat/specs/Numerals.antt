-- what a token of a proof log says as a number
use Rattle.std.specs.Prelude.{ℕ, ◌-◌, ◌^◌, Bool, true, false, ◌&&◌, nat_eq, nat_le, if◌then◌else◌, List, [], ◌∷◌, Option, Some, None}
pub use Rattle.gr_text.specs.Numerals.{is_digit, value_after, value, is_count}
use Rattle.gr_logic.specs.Literals.{Literal}

-- a minus sign, and one or more digits
abbrev pub is_negative : List ℕ → Bool
is_negative [] = false
is_negative (b ∷ bs) = nat_eq b 45 && is_count bs

-- a value from 1 to a greatest one
abbrev pub is_up_to : ℕ → ℕ → Bool
is_up_to most n = nat_le 1 n && nat_le n most

-- the id that a token says: digits with a value from 1 to 2^63 - 1
abbrev pub id_of : List ℕ → Option ℕ
id_of w = if is_count w && is_up_to (2 ^ 63 - 1) (value w) then Some (value w) else None

-- the literal of digits with a value from 1 to 1,000,000, and of a sign
abbrev pub signed_literal : Bool → List ℕ → Option Literal
signed_literal positive ds =
    if is_count ds && is_up_to 1_000_000 (value ds)
    then Some (record { index = value ds - 1; positive = positive }) else None

-- the literal that a token says: digits, behind a minus sign for a negation
abbrev pub literal_said : List ℕ → Option Literal
literal_said [] = None
literal_said (b ∷ bs) = if nat_eq b 45 then signed_literal false bs else signed_literal true (b ∷
    bs)
