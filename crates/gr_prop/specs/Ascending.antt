-- the keys of a finite map, in order
use Rattle.std.specs.Prelude.{◌↔◌, ◌<◌, ℕ, List, AllPairs, Contains, IsSome}
use Rattle.std.specs.Ordering.{nat_cmp}
use Rattle.std.specs.FinMap as finite
use Rattle.gr_logic.specs.declared.places.Place.{Place}

-- the keys of the map, ascending
pub record AreKeysOf (places : finite.FinMap nat_cmp Place) (keys : List ℕ) : Type 0 where
  pub rising : AllPairs (λ a b. a < b) keys
  pub each : (id : ℕ) → Contains keys id ↔ IsSome (finite.get places id)
