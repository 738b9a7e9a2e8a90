-- what holds while literals that became false pass the lists of their binary clauses
use Rattle.std.specs.Prelude.{◌≡◌, ◌<◌, ◌≤◌, ℕ, true, List, All, IsSome, length, take, drop}
use Rattle.std.specs.FinMap as finite
use Rattle.gr_logic.specs.Literals.{Literal, negation}
use Rattle.gr_trail.specs.Trails.{Assigned, TrailState, true_in}
use Rattle.gr_watch.specs.WatchLists.{WatchLists, list_of}
use Rattle.gr_prop.specs.Bases.{clauses_in}
use Rattle.gr_prop.specs.Watching.{Store, lits_at, is_pair, ArePaired, AreKnown, IsSound, IsGuarded, AreAt}

-- each clause of two literals is guarded against what passed the binary lists
abbrev pub ArePassed : Store → List Assigned → List Assigned → Type 0
ArePassed k assigned done =
    (place : ℕ) → IsSome (finite.get k place) → is_pair (lits_at k place) ≡ true
    → IsGuarded assigned done (lits_at k place)

-- the list of a literal that became false can be passed
pub record IsPassing (k : Store) (t : TrailState) (pairs : WatchLists) (gone : Literal) : Type 0 where
  pub paired : ArePaired k t.vars pairs
  pub known : AreKnown k t.vars
  pub sound : IsSound (clauses_in k) t
  pub low : gone.index < t.vars
  pub falsified : true_in t.assigned (negation gone) ≡ true

-- the other literal of each clause of the list is true
abbrev pub AreMet : TrailState → WatchLists → Literal → Type 0
AreMet t pairs gone = All (λ w. true_in t.assigned w.blocker ≡ true) (list_of pairs gone)

-- the literals of the trail before an index passed the binary lists, and the others are of the present level
pub record ArePassing (k : Store) (t : TrailState) (pairs : WatchLists) (ahead : ℕ) : Type 0 where
  pub paired : ArePaired k t.vars pairs
  pub known : AreKnown k t.vars
  pub sound : IsSound (clauses_in k) t
  pub within : ahead ≤ length t.assigned
  pub passed : ArePassed k t.assigned (take ahead t.assigned)
  pub queue : AreAt t.depth (drop ahead t.assigned)
