use Rattle.std.proofs.Common.{length, ◌-◌, ◌≡◌, ◌≤◌, nat_eq, ℕ, false, take}
use Rattle.gr_prop.specs.Watching.{is_in}
use Rattle.gr_prop.proofs.additions.forget.Given as goal

abbrev pub invariant-loop-index : goal.invariant-loop-index
invariant-loop-index l = record {
  within : l.index ≤ length l.places.items;
  kept : (q : ℕ) → nat_eq l.place.0 q ≡ false → is_in l.places.items q ≡ is_in l.fn.places.items q;
  gone : is_in (take l.index l.places.items) l.place.0 ≡ false;
}

abbrev pub decreases-loop-index : goal.decreases-loop-index
decreases-loop-index l = length l.places.items - l.index
