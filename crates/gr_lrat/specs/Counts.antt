-- numbers of which no more than a limit matters
use Rattle.std.specs.Prelude.{◌≡◌, ℕ, ◌-◌, ◌^◌, true, false, if◌then◌else◌, List, Option, Some, None}
pub use Rattle.gr_text.specs.Numerals.{capped_count}
use Rattle.gr_lrat.specs.Numerals.{is_up_to, is_negative, id_of}
use Rattle.gr_lrat.specs.declared.numerals.ListToken.{ListToken}
use Rattle.gr_lrat.specs.declared.numerals.ListToken.TheVariants as tokens

-- the id of a value that is read up to 2^63
abbrev pub id_of_count : Option ℕ → Option ℕ
id_of_count None = None
id_of_count (Some n) = if is_up_to (2 ^ 63 - 1) n then Some n else None

-- what a token says in a list of ids
abbrev pub SaysInList : ListToken → List ℕ → Type 0
SaysInList (tokens.Id id) w = id_of w ≡ Some id
SaysInList tokens.Negative w = (id_of w ≡ None) × (is_negative w ≡ true)
SaysInList tokens.Other w = (id_of w ≡ None) × (is_negative w ≡ false)
