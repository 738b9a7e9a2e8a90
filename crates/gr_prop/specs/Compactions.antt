-- what moving the clauses together does to the rest of a base
use Rattle.std.specs.Prelude.{◌≡◌, ℕ, All, Some, IsSome}
use Rattle.std.specs.Ordering.{nat_cmp}
use Rattle.std.specs.FinMap as finite
use Rattle.gr_logic.specs.Literals.{Literal}
use Rattle.gr_logic.specs.declared.places.Place.{Place}
use Rattle.gr_trail.specs.Trails.{Assigned}
use Rattle.gr_watch.specs.declared.lists.Watch.{Watch}
use Rattle.gr_watch.specs.WatchLists.{WatchLists, list_of}
use Rattle.gr_prop.specs.BaseChanges.{moved_place}

-- a watch with its clause at the new place
abbrev pub moved_watch : finite.FinMap nat_cmp ℕ → Watch → Watch
moved_watch moves w = record w { place = moved_place moves w.place }

-- the watch's clause was moved
abbrev pub IsMovedFrom : finite.FinMap nat_cmp ℕ → Watch → Type 0
IsMovedFrom moves w = IsSome (finite.get moves w.place.0)

-- so was each watch's
abbrev pub AreMoved : finite.FinMap nat_cmp ℕ → WatchLists → Type 0
AreMoved moves ws = (l : Literal) → All (IsMovedFrom moves) (list_of ws l)

-- and each reason
abbrev pub HasMovedReason : finite.FinMap nat_cmp ℕ → Assigned → Type 0
HasMovedReason moves a = (p : Place) → a.reason ≡ Some p → IsSome (finite.get moves p.0)
