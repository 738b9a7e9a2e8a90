-- the walk of greedy strengthening along a trail
use Rattle.std.specs.Prelude.{◌≡◌, ◌⊎◌, ℕ, true, List, [], ◌∷◌, ◌++◌, map, Option, Some, None}
use Rattle.std.specs.FinMap as finite
use Rattle.std.specs.FinSet as set
use Rattle.gr_logic.specs.Literals.{Literal, negation}
use Rattle.gr_logic.specs.Rup.{LiteralSet, members}
use Rattle.gr_logic.specs.Closure.{ClauseFamily, DerivesConflict}
use Rattle.gr_logic.specs.Greedy.{WalkKeeps, GreedyKeeps}
use Rattle.gr_logic.specs.declared.places.Place.{Place}
use Rattle.gr_trail.specs.Trails.{Assigned, true_in, value_in, up_to}
use Rattle.gr_prop.specs.Bases.{BaseClause, BaseState, Clauses, family, decisions, IsUnitClosure}
use Rattle.gr_hints.specs.Graphs.{IsFalse}

-- the one list is the other one without some of its members
abbrev pub IsSublist : List Literal → List Literal → Type 0
IsSublist [] ys = Unit {0}
IsSublist (x ∷ xs) [] = ⊥
IsSublist (x ∷ xs) (y ∷ ys) = ((x ≡ y) × IsSublist xs ys) ⊎ IsSublist (x ∷ xs) ys

-- the clause has a literal and its negation
abbrev pub HasBothSigns : LiteralSet → Type 0
HasBothSigns c = (l : Literal) × (c l ≡ true) × (c (negation l) ≡ true)

-- the family has each clause of the base under its id, and no others but tautologies
pub record Represents (k : ClauseFamily) (clauses : Clauses) : Type 0 where
  pub cites : (place : ℕ) (c : BaseClause) → finite.get clauses place ≡ Some c → k c.id ≡ Some (set.contains c.literals)
  pub others : (id : ℕ) (c : LiteralSet) → k id ≡ Some c
      → ((place : ℕ) × (family clauses place ≡ Some c)) ⊎ HasBothSigns c

-- each literal of the clause is false, or true and kept
abbrev pub IsSpentBy : List Assigned → List Literal → LiteralSet → Type 0
IsSpentBy assigned kept c =
    (q : Literal) → c q ≡ true
    → IsFalse assigned q ⊎ ((true_in assigned q ≡ true) × (members kept q ≡ true))

-- the clause at a place where the walk stopped is spent, or else the one that was walked through
abbrev pub IsSpentAt : BaseState → List Literal → List Literal → Option Place → Type 0
IsSpentAt b kept clause None = IsSpentBy b.trail.assigned kept (members clause)
IsSpentAt b kept clause (Some place) =
    (c : LiteralSet) × (family b.clauses place.0 ≡ Some c) × IsSpentBy b.trail.assigned kept c

-- each decision is the negation of a kept literal
abbrev pub AreKeptDecisions : List Assigned → List Literal → Type 0
AreKeptDecisions assigned kept =
    (q : Literal) → members (decisions assigned) (negation q) ≡ true → members kept q ≡ true

-- the walk kept these literals: what greedy strengthening keeps
pub record HasWalked (b : BaseState) (kept clause : List Literal) (stop : Option Place) : Type 0 where
  pub greedy : (k : ClauseFamily) → Represents k b.clauses → GreedyKeeps k clause kept
  pub part : IsSublist kept clause
  pub decided : AreKeptDecisions b.trail.assigned kept
  pub spent : IsSpentAt b kept clause stop

-- the walk goes on: the literal is false and left out, or it is kept and its negation was decided
pub record HasPassed (old new : BaseState) (kept after : List Literal) (l : Literal) : Type 0 where
  pub closure : IsUnitClosure (family old.clauses) (decisions old.trail.assigned) old.trail.assigned
  pub quiet : new.quiet ≡ true
  pub decided : decisions new.trail.assigned ≡ map negation after
  pub more : (q : Literal) → true_in old.trail.assigned q ≡ true → true_in new.trail.assigned q ≡ true
  pub false' : IsFalse new.trail.assigned l
  pub by : (IsFalse old.trail.assigned l × (after ≡ kept))
      ⊎ ((value_in old.trail.assigned l ≡ None) × (after ≡ kept ++ l ∷ []))

-- the walk ends with the literal: it is true, or its negation leads to a conflict
pub record HasStopped (old new : BaseState) (kept after : List Literal) (l : Literal) (place : Place) : Type 0 where
  pub closure : IsUnitClosure (family old.clauses) (decisions old.trail.assigned) old.trail.assigned
  pub last : after ≡ kept ++ l ∷ []
  pub spent : IsSpentAt new after [] (Some place)
  pub decided : AreKeptDecisions new.trail.assigned after
  pub by : (true_in old.trail.assigned l ≡ true)
      ⊎ ((value_in old.trail.assigned l ≡ None) × DerivesConflict (family new.clauses) (members (map negation after)))

-- what a step of the walk does
abbrev pub IsStep : BaseState → BaseState → List Literal → List Literal → Literal → Option Place → Type 0
IsStep old new kept after l None = HasPassed old new kept after l
IsStep old new kept after l (Some place) = HasStopped old new kept after l place

-- what holds along the walk, where these literals are left: `start` is the base as the walk began
pub record IsWalking (start b : BaseState) (kept rest clause : List Literal) : Type 0 where
  pub clauses : b.clauses ≡ start.clauses
  pub vars : b.trail.vars ≡ start.trail.vars
  pub ground : up_to 0 b.trail.assigned ≡ start.trail.assigned
  pub quiet : b.quiet ≡ true
  pub decided : decisions b.trail.assigned ≡ map negation kept
  pub part : (more : List Literal) → IsSublist more rest → IsSublist (kept ++ more) clause
  pub left : (k : ClauseFamily) → Represents k start.clauses → (outcome : List Literal)
      → WalkKeeps k kept rest outcome → GreedyKeeps k clause outcome
  pub passed : (q : Literal) → members clause q ≡ true → IsFalse b.trail.assigned q ⊎ (members rest q ≡ true)
