-- ids in ascending order, and where each stands
use Rattle.std.specs.Prelude.{ℕ, ◌<◌, ◌≡◌, ◌≢◌, List, length, Option, Some, None, slice_index_or}

-- each id is greater than those before it
abbrev pub AreAscending : List ℕ → Type 0
AreAscending ids = (i j : ℕ) → i < j → j < length ids → slice_index_or ids i 0 < slice_index_or ids j 0

-- the id stands at this place, and at no other
pub record IsPlaceOf (ids : List ℕ) (id place : ℕ) : Type 0 where
  pub within : place < length ids
  pub here : slice_index_or ids place 0 ≡ id
  pub only : (i : ℕ) → i < length ids → slice_index_or ids i 0 ≡ id → i ≡ place

-- the id's place, or nothing where it stands nowhere
abbrev pub IsFound : List ℕ → ℕ → Option ℕ → Type 0
IsFound ids id None = (i : ℕ) → i < length ids → slice_index_or ids i 0 ≢ id
IsFound ids id (Some place) = IsPlaceOf ids id place
