-- what two maps of one work set keep
use Rattle.std.specs.Prelude.{ℕ, ◌≤◌, length}
use Rattle.std.specs.BTreeMap.{BTreeMap, values}
use Rattle.gr_logic.specs.declared.items.Item.{Item}
use Rattle.gr_work.specs.declared.ranks.Rank.{Rank}
use Rattle.gr_work.specs.Ranks.{IsRanking}
use Rattle.gr_work.specs.WorkSets.{HasDifferentIds, IsBounded}

-- room for some items, at most so many, of different ids, and the same in both maps
pub record IsSound (capacity : ℕ) (arrivals : BTreeMap ℕ Item) (ranking : BTreeMap Rank Item) : Type 0 where
  pub bounded : IsBounded capacity
  pub room : length (values arrivals) ≤ capacity
  pub different : HasDifferentIds (values arrivals)
  pub ranking_is : IsRanking arrivals ranking
