-- what the visit of a watch does
use Rattle.std.specs.Prelude.{◌≡◌, ◌≢◌, ◌⊎◌, ℕ, true, false, List, [], ◌∷◌, ◌++◌, IsSome}
use Rattle.std.specs.List.Sorted.{IsPermutation}
use Rattle.std.specs.FinMap as finite
use Rattle.gr_logic.specs.Literals.{Literal, negation, same_literal}
use Rattle.gr_logic.specs.Rup.{members}
use Rattle.gr_trail.specs.Trails.{Assigned, TrailState, true_in}
use Rattle.gr_watch.specs.WatchLists.{WatchLists, list_of, with_list}
use Rattle.gr_prop.specs.Watching.{Store, stored_at, lits_at, AllFalse}
use Rattle.gr_prop.specs.BaseChanges.{with_forced}
use Rattle.gr_prop.specs.declared.visits.Ending.{Ending}
use Rattle.gr_prop.specs.declared.visits.Ending.TheVariants.{Stays, Moves, Fails}

-- the literal is the first or the second of the clause
abbrev pub IsWatchedIn : List Literal → Literal → Type 0
IsWatchedIn [] gone = ⊥
IsWatchedIn (w ∷ []) gone = ⊥
IsWatchedIn (w ∷ o ∷ rest) gone = (w ≡ gone) ⊎ (o ≡ gone)

-- only the order of the literals of the clause at this place changes
pub record IsReordered (old new : Store) (place : ℕ) : Type 0 where
  pub others : (q : ℕ) → q ≢ place → finite.get new q ≡ finite.get old q
  pub was : IsSome (finite.get old place)
  pub there : IsSome (finite.get new place)
  pub id : (stored_at new place).id ≡ (stored_at old place).id
  pub lbd : (stored_at new place).lbd ≡ (stored_at old place).lbd
  pub lits : IsPermutation (lits_at old place) (lits_at new place)

-- the literal, which was among the first two, is the second now
pub record IsTurned (old new : List Literal) (gone : Literal) : Type 0 where
  pub first : Literal
  pub rest : List Literal
  pub is : new ≡ first ∷ gone ∷ rest
  pub was : (old ≡ first ∷ gone ∷ rest) ⊎ (old ≡ gone ∷ first ∷ rest)

-- all literals but this one are false
abbrev pub OthersFalse : List Assigned → List Literal → Literal → Type 0
OthersFalse assigned c l =
    (q : Literal) → members c q ≡ true → same_literal q l ≡ false → true_in assigned (negation q) ≡ true

-- the other watched literal is true now: it was before, or the clause forces it
pub record IsHeld (k n : Store) (t u : TrailState) (ws vs : WatchLists) (place : ℕ) (gone blocker : Literal) : Type 0
  where
    pub reordered : IsReordered k n place
    pub turned : IsTurned (lits_at k place) (lits_at n place) gone
    pub first : blocker ≡ turned.first
    pub lists : vs ≡ ws
    pub trail : ((true_in t.assigned blocker ≡ true) × (u ≡ t))
        ⊎ (OthersFalse t.assigned (lits_at n place) blocker × (true_in t.assigned blocker ≡ false)
        × (true_in t.assigned (negation blocker) ≡ false) × (u ≡ with_forced t blocker (record { 0 = place })))

-- another literal is watched in place of the false one
pub record IsMoved (k n : Store) (t u : TrailState) (ws vs : WatchLists) (place : ℕ) (gone : Literal) : Type 0 where
  pub reordered : IsReordered k n place
  pub first : Literal
  pub next : Literal
  pub rest : List Literal
  pub left : List Literal
  pub is : lits_at n place ≡ first ∷ next ∷ rest
  pub was : (lits_at k place ≡ first ∷ gone ∷ left) ⊎ (lits_at k place ≡ gone ∷ first ∷ left)
  pub free : true_in t.assigned (negation next) ≡ false
  pub trail : u ≡ t
  pub lists : vs ≡ with_list ws next (list_of ws next ++ (record { place = record { 0 = place }; blocker = first }) ∷
      [])

-- all literals are false
pub record IsFailed (k n : Store) (t u : TrailState) (ws vs : WatchLists) (place : ℕ) (gone : Literal) : Type 0 where
  pub reordered : IsReordered k n place
  pub turned : IsTurned (lits_at k place) (lits_at n place) gone
  pub all_false : AllFalse t.assigned (lits_at n place)
  pub trail : u ≡ t
  pub lists : vs ≡ ws

-- how the visit ended
abbrev pub Visited : Ending → Store → Store → TrailState → TrailState → WatchLists → WatchLists → ℕ → Literal → Type 0
Visited (Stays blocker) k n t u ws vs place gone = IsHeld k n t u ws vs place gone blocker
Visited Moves k n t u ws vs place gone = IsMoved k n t u ws vs place gone
Visited Fails k n t u ws vs place gone = IsFailed k n t u ws vs place gone

-- memory was wanting: only the order of one clause's literals may have changed
pub record IsCut (k n : Store) (t u : TrailState) (ws vs : WatchLists) (place : ℕ) (gone : Literal) : Type 0 where
  pub reordered : IsReordered k n place
  pub turned : IsTurned (lits_at k place) (lits_at n place) gone
  pub trail : u ≡ t
  pub lists : vs ≡ ws
