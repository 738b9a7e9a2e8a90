-- how a clause stands that comes in
use Rattle.std.specs.Prelude.{◌≡◌, ◌⊎◌, ℕ, true, false, List, [], ◌∷◌, ◌++◌, ◌≤◌, ◌<◌, IsTrue, take, length, slice_index_or, None}
use Rattle.gr_logic.specs.Literals.{Literal, negation}
use Rattle.gr_logic.specs.declared.places.Place.{Place}
use Rattle.gr_trail.specs.Trails.{Assigned, true_in, value_in}
use Rattle.gr_watch.specs.declared.lists.Watch.{Watch}
use Rattle.gr_watch.specs.WatchLists.{WatchLists, list_of, with_list, taken_out, first_at, is_at}
use Rattle.std.specs.List.{list_any}
use Rattle.gr_prop.specs.Watching.{AllFalse}
use Rattle.gr_prop.specs.Visits.{OthersFalse}
use Rattle.gr_prop.specs.declared.additions.Standing.{Standing}
use Rattle.gr_prop.specs.declared.additions.Standing.TheVariants.{Broken, Forced, Rests}

-- two literals that are not false stand first, as far as there are two
abbrev pub IsArranged : List Assigned → List Literal → Type 0
IsArranged assigned [] = Unit {0}
IsArranged assigned (w ∷ []) = Unit {0}
IsArranged assigned (w ∷ o ∷ rest) =
    (true_in assigned (negation w) ≡ true → AllFalse assigned (w ∷ o ∷ rest))
    × (true_in assigned (negation o) ≡ true → OthersFalse assigned (w ∷ o ∷ rest) w)

-- the literal at the index is not false, or all from there on are; those before stay
pub record IsFronted (assigned : List Assigned) (old new : List Literal) (at : ℕ) : Type 0 where
  pub before : take at new ≡ take at old
  pub free : (d : Literal) → true_in assigned (negation (slice_index_or new at d)) ≡ true
      → (k : ℕ) → at ≤ k → k < length new → true_in assigned (negation (slice_index_or new k d)) ≡ true

-- a watch is added to a list
abbrev pub attached : WatchLists → Literal → Watch → WatchLists
attached ws l new = with_list ws l (list_of ws l ++ new ∷ [])

-- the first two literals of the clause watch it
abbrev pub watching_too : WatchLists → Place → List Literal → WatchLists
watching_too ws place [] = ws
watching_too ws place (w ∷ []) = ws
watching_too ws place (w ∷ o ∷ rest) =
    attached (attached ws w (record { place = place; blocker = o })) o (record { place = place; blocker = w })

-- the first watch of the place is taken out of a list
abbrev pub detached : WatchLists → Literal → Place → WatchLists
detached ws l place = with_list ws l (taken_out (list_of ws l) (first_at place (list_of ws l)))

-- the lists have the clause under its first two literals
abbrev pub IsWatchedByTwo : WatchLists → Place → List Literal → Type 0
IsWatchedByTwo ws place [] = Unit {0}
IsWatchedByTwo ws place (w ∷ []) = Unit {0}
IsWatchedByTwo ws place (w ∷ o ∷ rest) =
    IsTrue (list_any (is_at place) (list_of ws w)) × IsTrue (list_any (is_at place) (list_of (detached ws w place) o))

-- no literal watches the clause any more
abbrev pub unwatching : WatchLists → Place → List Literal → WatchLists
unwatching ws place [] = ws
unwatching ws place (w ∷ []) = ws
unwatching ws place (w ∷ o ∷ rest) = detached (detached ws w place) o place

-- how an arranged clause stands: all its literals are false; or it forces the one that has no value; or
-- a literal is true, or two have no value
abbrev pub StandsAs : List Assigned → List Literal → Standing → Type 0
StandsAs assigned c Broken = AllFalse assigned c
StandsAs assigned [] (Forced l) = ⊥
StandsAs assigned (w ∷ rest) (Forced l) =
    (l ≡ w) × (value_in assigned w ≡ None) × OthersFalse assigned (w ∷ rest) w
StandsAs assigned [] Rests = ⊥
StandsAs assigned (w ∷ []) Rests = true_in assigned w ≡ true
StandsAs assigned (w ∷ o ∷ rest) Rests =
    (true_in assigned w ≡ true) ⊎ ((true_in assigned (negation w) ≡ false) × (true_in assigned (negation o) ≡ false))
