use Rattle.std.proofs.Common.{length, ◌-◌, ◌≡◌, ◌≤◌, ℕ, true, false, nat_eq, take}
use Rattle.std.specs.List.{list_any}
use Rattle.std.specs.Option.{option_map}
use Rattle.std.specs.FinMap as finite
use Rattle.gr_prop.specs.BaseChanges.{moved_place}
use Rattle.gr_prop.proofs.compacting.move_index.Given as goal

abbrev pub invariant-loop-index : goal.invariant-loop-index
invariant-loop-index l = record {
  within : l.index ≤ length l.ids;
  moved : (q : ℕ) → list_any (nat_eq q) (take l.index l.ids) ≡ true → finite.get l.places q ≡ option_map
      (moved_place l.moves) (finite.get l.fn.places q);
  still : (q : ℕ) → list_any (nat_eq q) (take l.index l.ids) ≡ false → finite.get l.places q ≡ finite.get l.fn.places q;
}

abbrev pub decreases-loop-index : goal.decreases-loop-index
decreases-loop-index l = length l.ids - l.index
