-- the items on offer to the reducers, in order of arrival
use Rattle.std.specs.Prelude.{ℕ, Bool, not, ◌≤◌, List, map, filter, nat_eq, Option, Some, None}
use Rattle.std.specs.List.{list_any, IsDistinct}
use Rattle.gr_logic.specs.declared.items.Item.{Item}

-- how many items there is room for, and the items
pub record WorkList : Type 0 where
  pub capacity : ℕ
  pub items : List Item

-- whether an item has this id
abbrev pub is_in : ℕ → List Item → Bool
is_in id items = list_any (λ item. nat_eq id item.id) items

-- no two items have one id
abbrev pub HasDifferentIds : List Item → Type 0
HasDifferentIds items = IsDistinct nat_eq (map (λ item. item.id) items)

-- the items without the one of this id
abbrev pub without_id : ℕ → List Item → List Item
without_id id items = filter (λ item. not (nat_eq id item.id)) items

-- the items without this one, if there is one
abbrev pub without : Option Item → List Item → List Item
without None items = items
without (Some item) items = without_id item.id items

-- there is room for some items, and not for more than a hundred thousand
abbrev pub IsBounded : ℕ → Type 0
IsBounded capacity = (1 ≤ capacity) × (capacity ≤ 100000)
