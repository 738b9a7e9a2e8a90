-- what holds while the list of a literal that became false is walked
use Rattle.std.specs.Prelude.{◌≡◌, ℕ, ◌*◌, ◌≤◌, ◌<◌, true, List, length, take, IsSome}
use Rattle.std.specs.FinMap as finite
use Rattle.std.specs.List.Sorted.{IsPermutation}
use Rattle.std.specs.List.{list_any}
use Rattle.gr_logic.specs.Literals.{Literal, negation}
use Rattle.gr_logic.specs.Closure.{IsWithin}
use Rattle.gr_trail.specs.Trails.{Assigned, TrailState, true_in}
use Rattle.gr_watch.specs.declared.lists.Watch.{Watch}
use Rattle.gr_watch.specs.WatchLists.{WatchLists, with_list}
use Rattle.gr_prop.specs.Bases.{clauses_in}
use Rattle.gr_prop.specs.BaseChanges.{IsGrown}
use Rattle.gr_prop.specs.Watching.{Store, lits_at, count_in, IsWatching, AreBlocked, AllDistinct, AreKnown, IsSound, IsGuarded, longer}

-- the lists are those of a base once the walked list is put back
pub record IsWalking (k : Store) (t : TrailState) (lists : WatchLists) (list : List Watch) (gone : Literal) : Type 0
  where
    pub watching : IsWatching longer k (with_list lists gone list)
    pub blocked : AreBlocked k (with_list lists gone list)
    pub distinct : AllDistinct k
    pub known : AreKnown k t.vars
    pub vars : lists.vars ≡ t.vars
    pub even : length lists.lists ≡ 2 * t.vars
    pub low : gone.index < t.vars
    pub sound : IsSound (clauses_in k) t
    pub falsified : true_in t.assigned (negation gone) ≡ true

-- the clauses of the list's front have true literals
abbrev pub AreVisited : Store → List Assigned → List Watch → ℕ → Type 0
AreVisited k assigned list i =
    (place : ℕ) → 1 ≤ count_in place (take i list) → list_any (true_in assigned) (lits_at k place) ≡ true

-- propagation went on: the clauses are the same, each with its literals in some order, the trail may have grown, and
-- guards stay
pub record IsProgress (k n : Store) (t u : TrailState) : Type 0 where
  pub clauses : clauses_in n ≡ clauses_in k
  pub orders : (place : ℕ) → IsPermutation (lits_at k place) (lits_at n place)
  pub there : (place : ℕ) → IsSome (finite.get n place) → IsSome (finite.get k place)
  pub grown : IsGrown t u
  pub guards : (done : List Assigned) → IsWithin (true_in done) (true_in t.assigned) → (place : ℕ)
      → IsSome (finite.get n place) → IsGuarded t.assigned done (lits_at k place)
      → IsGuarded u.assigned done (lits_at n place)
