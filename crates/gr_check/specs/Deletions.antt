-- the ids of a deletion
use Rattle.std.specs.Prelude.{◌≡◌, ℕ, true, List, Option, Some, None, nat_eq}
use Rattle.std.specs.List.{list_any}
use Rattle.gr_logic.specs.Log.{Cause, IsNotLive}

-- the cause where this id is missing, if one is
abbrev pub missing_cause : Option ℕ → Option Cause
missing_cause None = None
missing_cause (Some id) = Some (IsNotLive id)

-- each of the keys is one of the ids
abbrev pub AreAmong : List ℕ → List ℕ → Type 0
AreAmong keys ids = (q : ℕ) → list_any (nat_eq q) keys ≡ true → list_any (nat_eq q) ids ≡ true
