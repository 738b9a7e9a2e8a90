-- what the best item of a work list is
use Rattle.std.specs.Prelude.{◌≡◌, ◌≢◌, Bool, true, false, ◌||◌, ◌&&◌, nat_lt, nat_eq, List, [], ◌∷◌, ◌++◌, Some, All}
use Rattle.std.specs.Prelude.{IsSome}
use Rattle.gr_logic.specs.declared.items.Item.{Item}
use Rattle.gr_logic.specs.WorkLists.{best}

-- a smaller LBD is better, and fewer literals are where the LBDs are equal
abbrev pub is_better : Item → Item → Bool
is_better item other = nat_lt item.lbd other.lbd || (nat_eq item.lbd other.lbd && nat_lt item.len other.len)

-- the item stands in the list; none that arrived before it is better, and it is better than each that arrived after it
pub record IsBest (items : List Item) (item : Item) : Type 0 where
  pub before : List Item
  pub after : List Item
  pub stands : items ≡ before ++ item ∷ after
  pub earlier : All (λ other. is_better other item ≡ false) before
  pub later : All (λ other. is_better item other ≡ true) after

-- what the list answers as its best item is that
abbrev pub BestIsBest : Type 0
BestIsBest = (items : List Item) (item : Item) → best items ≡ Some item → IsBest items item

-- an item that stands so is what the list answers
abbrev pub NoOtherIsBest : Type 0
NoOtherIsBest = (items : List Item) (item : Item) → IsBest items item → best items ≡ Some item

-- a list with items has a best one
abbrev pub SomeItemIsBest : Type 0
SomeItemIsBest = (items : List Item) → items ≢ [] → IsSome (best items)
