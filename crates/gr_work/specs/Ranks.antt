-- items by the numbers of their arrivals, and by what makes them better
use Rattle.std.specs.Prelude.{◌≡◌, ℕ, Option, Some}
use Rattle.std.specs.declared.cmp.Ordering.{Ordering}
use Rattle.std.specs.Ordering.{nat_cmp, on, flip_args, then_cmp}
use Rattle.std.specs.BTreeMap as tree
use Rattle.std.specs.BTreeMap.{BTreeMap, IsOrdered}
use Rattle.gr_logic.specs.declared.items.Item.{Item}
use Rattle.gr_work.specs.declared.ranks.Rank.{Rank}

-- the rank of an item that arrived with this number
abbrev pub rank_of : ℕ → Item → Rank
rank_of arrival item = record { lbd = item.lbd; len = item.len; arrival = arrival }

-- the better comes first: the one of the smaller LBD, then of fewer literals, then of later arrival
abbrev pub rank_cmp : Rank → Rank → Ordering
rank_cmp =
    then_cmp (on (λ r. r.lbd) nat_cmp)
    (then_cmp (on (λ r. r.len) nat_cmp) (flip_args (on (λ r. r.arrival) nat_cmp)))

-- the ranking has each item that arrived under its rank, and no other
pub record IsRankingBy (arrivals : ℕ → Option Item) (ranking : Rank → Option Item) : Type 0 where
  pub ranked : (arrival : ℕ) (item : Item) → arrivals arrival ≡ Some item
      → ranking (rank_of arrival item) ≡ Some item
  pub arrived : (rank : Rank) (item : Item) → ranking rank ≡ Some item
      → (rank ≡ rank_of rank.arrival item) × (arrivals rank.arrival ≡ Some item)

-- two maps, the one in order of arrival, have the same items
pub record IsRanking (arrivals : BTreeMap ℕ Item) (ranking : BTreeMap Rank Item) : Type 0 where
  pub in_order : IsOrdered nat_cmp arrivals
  pub same : IsRankingBy (tree.get nat_cmp arrivals) (tree.get rank_cmp ranking)
