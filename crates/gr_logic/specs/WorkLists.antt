-- the list of clauses on offer, in order of arrival
use Rattle.std.specs.Prelude.{ℕ, Bool, ◌&&◌, ◌||◌, nat_eq, nat_lt, if◌then◌else◌, List, [], ◌∷◌, ◌++◌, length, Option, Some, None}
use Rattle.gr_logic.specs.declared.items.Item.{Item}

-- a list without its first element, and the empty list as it is
abbrev pub without_first : {X : Type 0} → List X → List X
without_first [] = []
without_first (x ∷ xs) = xs

-- the item arrives last; where the list is full, the earliest one leaves it before
abbrev pub enter : List Item → ℕ → Item → List Item
enter work capacity item = (if nat_eq (length work) capacity then without_first work else work) ++ item ∷ []

-- the earlier of two items comes before the later one only by a smaller LBD,
-- or by fewer literals where the LBDs are equal
abbrev pub comes_before : Item → Item → Bool
comes_before earlier later =
    nat_lt earlier.lbd later.lbd || (nat_eq earlier.lbd later.lbd && nat_lt earlier.len later.len)

-- the best of an item and a list of later ones
abbrev pub best_from : Item → List Item → Item
best_from item [] = item
best_from item (x ∷ xs) = best_from (if comes_before item x then item else x) xs

-- the item of least LBD, then of fewest literals, then of latest arrival
abbrev pub best : List Item → Option Item
best [] = None
best (x ∷ xs) = Some (best_from x xs)
