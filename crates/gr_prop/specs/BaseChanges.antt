-- what the calls of a base change
use Rattle.std.specs.Prelude.{◌≡◌, ◌⊎◌, ◌↔◌, ◌<◌, ◌+◌, ℕ, true, false, List, [], ◌∷◌, ◌++◌, All, map, AllPairs, Contains, Some, None, is_none, is_some, option_map, unwrap_or, IsSome}
use Rattle.std.specs.Ordering.{nat_cmp}
use Rattle.std.specs.FinMap as finite
use Rattle.std.specs.FinSet as set
use Rattle.gr_logic.specs.Literals.{Literal, var_of}
use Rattle.gr_logic.specs.Rup.{members}
use Rattle.gr_logic.specs.Closure.{Forces, DerivesConflict}
use Rattle.gr_logic.specs.declared.places.Place.{Place}
use Rattle.gr_trail.specs.Trails.{Assigned, TrailState, true_in, value_in, assigned_to, up_to, with_reason}
use Rattle.gr_prop.specs.Bases.{BaseState, Clauses, family, decisions, HasId, IsUnitClosure, IsFalseAt}
use Rattle.gr_prop.specs.declared.bases.Propagated.{Propagated}
use Rattle.gr_prop.specs.declared.bases.Propagated.TheVariants.{Quiet, Conflict}

-- a clause that a conflict taught: its first literal has no value, its others are false, and the
-- second got its value at the present level
abbrev pub IsLearnt : TrailState → List Literal → Type 0
IsLearnt t [] = ⊥
IsLearnt t (first ∷ []) = ⊥
IsLearnt t (first ∷ second ∷ rest) =
    (value_in t.assigned first ≡ None)
    × (All (λ q. value_in t.assigned q ≡ Some false) (second ∷ rest))
    × (option_map (λ a. a.level) (assigned_to t.assigned (var_of second)) ≡ Some t.depth)

-- the clause may come in now
abbrev pub IsAddable : TrailState → List Literal → Type 0
IsAddable t c = (t.depth ≡ 0) ⊎ IsLearnt t c

-- the trail with one more literal, forced at the present level by the clause at the place
abbrev pub with_forced : TrailState → Literal → Place → TrailState
with_forced t l place = record t {
  assigned = t.assigned ++ record { lit = l; level = t.depth; reason = Some place } ∷ [];
}

-- the trail with a decision, which opens a level
abbrev pub with_decision : TrailState → Literal → TrailState
with_decision t l = record t {
  depth = t.depth + 1;
  assigned = t.assigned ++ record { lit = l; level = t.depth + 1; reason = None } ∷ [];
}

-- the trail at a level
abbrev pub back_to : TrailState → ℕ → TrailState
back_to t level = record t { depth = level; assigned = up_to level t.assigned }

-- the clause forces the literal, which has no value
abbrev pub ForcesOpen : List Assigned → List Literal → Literal → Type 0
ForcesOpen assigned c l = Forces (true_in assigned) (members c) l × (value_in assigned l ≡ None)

-- a clause comes in at a new place; where it forces a literal that has no value, this one becomes
-- true, and else the trail stays
pub record IsAdded (old new : BaseState) (id lbd : ℕ) (c : List Literal) (place : Place) : Type 0 where
  pub fresh : finite.get old.clauses place.0 ≡ None
  pub clauses : new.clauses
      ≡ finite.insert old.clauses place.0 (record { id = id; lbd = lbd; literals = set.from_list c })
  pub trail : ((l : Literal) × (ForcesOpen old.trail.assigned c l × (new.trail ≡ with_forced old.trail l place)))
      ⊎ (((l : Literal) → ForcesOpen old.trail.assigned c l → ⊥) × (new.trail ≡ old.trail))
  pub quiet : new.quiet ≡ false
  pub conflict : new.conflict ≡ None

-- the unit clause of a literal comes in at a new place, and becomes its reason
pub record IsSettled (old new : BaseState) (l : Literal) (id : ℕ) (place : Place) : Type 0 where
  pub fresh : finite.get old.clauses place.0 ≡ None
  pub changed : new ≡ record old {
    clauses = finite.insert old.clauses place.0 (record { id = id; lbd = 1; literals = set.from_list (l ∷ []) });
    trail = record old.trail { assigned = with_reason old.trail.assigned (var_of l) place };
    conflict = None;
  }

-- forced, at the level
abbrev pub IsForcedAt : ℕ → Assigned → Type 0
IsForcedAt level a = (a.level ≡ level) × (is_none a.reason ≡ false)

-- the trail has more literals, each forced at the present level
pub record IsGrown (t u : TrailState) : Type 0 where
  pub vars : u.vars ≡ t.vars
  pub depth : u.depth ≡ t.depth
  pub more : List Assigned
  pub assigned : u.assigned ≡ t.assigned ++ more
  pub forced : All (IsForcedAt t.depth) more

-- how propagation ends: with the closure, or with a clause whose literals are all false
abbrev pub Ends : Propagated → BaseState → Type 0
Ends Quiet b =
    (b.quiet ≡ true) × (b.conflict ≡ None)
    × IsUnitClosure (family b.clauses) (decisions b.trail.assigned) b.trail.assigned
Ends (Conflict place) b =
    (b.quiet ≡ false) × (b.conflict ≡ Some place)
    × IsFalseAt b.clauses b.trail.assigned place
    × DerivesConflict (family b.clauses) (members (decisions b.trail.assigned))

-- the ids of the clauses, ascending
pub record AreIdsOf (clauses : Clauses) (ids : List ℕ) : Type 0 where
  pub rising : AllPairs (λ a b. a < b) ids
  pub each : (id : ℕ) → Contains ids id ↔ HasId clauses id

-- a place after the move; one that nothing was moved from stays
abbrev pub moved_place : finite.FinMap nat_cmp ℕ → Place → Place
moved_place moves place = record { 0 = unwrap_or (finite.get moves place.0) place.0 }

-- an assignment with its reason at its new place
abbrev pub moved_assigned : finite.FinMap nat_cmp ℕ → Assigned → Assigned
moved_assigned moves a = record a { reason = option_map (moved_place moves) a.reason }

-- the same clauses at new places, each old place having one of its own, and the same trail with its
-- reasons at these places
pub record IsCompacted (old new : BaseState) : Type 0 where
  pub moves : finite.FinMap nat_cmp ℕ
  pub moved : (p : ℕ) → is_some (finite.get moves p) ≡ is_some (finite.get old.clauses p)
  pub kept : (p q : ℕ) → finite.get moves p ≡ Some q → finite.get new.clauses q ≡ finite.get old.clauses p
  pub apart : (p r q : ℕ) → finite.get moves p ≡ Some q → finite.get moves r ≡ Some q → p ≡ r
  pub onto : (q : ℕ) → IsSome (finite.get new.clauses q) → (p : ℕ) × (finite.get moves p ≡ Some q)
  pub trail : new.trail ≡ record old.trail { assigned = map (moved_assigned moves) old.trail.assigned }
  pub quiet : new.quiet ≡ old.quiet
  pub conflict : new.conflict ≡ None
