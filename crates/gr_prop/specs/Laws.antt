-- what follows for every base
use Rattle.std.specs.Prelude.{◌≡◌, ◌≢◌, ◌<◌, ℕ, true, false, List, All, Some, None, IsSome, IfSome, IfNone, Option, option_map, slice_get, unwrap_or}
use Rattle.std.specs.Ordering.{nat_cmp}
use Rattle.std.specs.FinMap as finite
use Rattle.gr_logic.specs.Literals.{Literal, var_of}
use Rattle.gr_logic.specs.Rup.{members}
use Rattle.gr_logic.specs.declared.places.Place.{Place}
use Rattle.gr_arena.specs.Arenas.{Stored, no_clause}
use Rattle.gr_trail.specs.Trails.{TrailState, IsTrail, assigned_to, true_in, value_in}
use Rattle.gr_prop.specs.Bases.{BaseState, BaseClause, Clauses, clauses_in, family, IsBase, LacksId, HasIdAt}
use Rattle.gr_prop.specs.BaseChanges.{IsLearnt, IsCompacted, back_to}
use Rattle.gr_prop.specs.Learnt.{IsLearntAt}

-- the literal is false, and became so before the variable got its value
pub record IsEarlier (t : TrailState) (var : ℕ) (q : Literal) : Type 0 where
  pub value : value_in t.assigned q ≡ Some false
  pub there : IsSome (assigned_to t.assigned (var_of q))
  pub order : (i j : ℕ) → slice_get t.assigned i ≡ assigned_to t.assigned (var_of q)
      → slice_get t.assigned j ≡ assigned_to t.assigned var → i < j

-- the other literals of a reason became false before the one that it forced
abbrev pub ReasonsComeEarlier : Type 0
ReasonsComeEarlier =
    (b : BaseState) (var : ℕ) (place : Place) (q : Literal) → IsBase b → IsTrail b.trail
    → option_map (λ a. a.reason) (assigned_to b.trail.assigned var) ≡ Some (Some place)
    → IfSome (family b.clauses place.0) (λ c. c q ≡ true) → var_of q ≢ var → IsEarlier b.trail var q

-- a reason is a clause that is there, and has the literal that it forced
abbrev pub ReasonsAreClauses : Type 0
ReasonsAreClauses =
    (b : BaseState) (var : ℕ) (reason : Option Place) → IsBase b
    → option_map (λ a. a.reason) (assigned_to b.trail.assigned var) ≡ Some reason
    → IfSome reason (λ place. IfSome (assigned_to b.trail.assigned var)
    (λ a. IfSome (family b.clauses place.0) (λ c. c a.lit ≡ true)))
    × IfSome reason (λ place. IsSome (finite.get b.clauses place.0))

-- where a base is quiet and each variable has a value, each clause has a true literal
abbrev pub QuietBasesAreModels : Type 0
QuietBasesAreModels =
    (b : BaseState) (place : ℕ) (c : List Literal) → IsBase b → b.quiet ≡ true
    → family b.clauses place ≡ Some (members c) → All (λ l. l.index < b.trail.vars) c
    → ((l : Literal) → l.index < b.trail.vars → value_in b.trail.assigned l ≢ None)
    → (q : Literal) × (members c q ≡ true) × (true_in b.trail.assigned q ≡ true)

-- a clause that a conflict taught may come in once the trail went back
abbrev pub LearntClausesComeIn : Type 0
LearntClausesComeIn =
    (t : TrailState) (c : List Literal) (level : ℕ) → IsTrail t → IsLearntAt t c level
    → IsLearnt (back_to t level) c

-- the literals that an arena has at a place are those of the base's clause
abbrev pub ArenasHaveTheClauses : Type 0
ArenasHaveTheClauses =
    (k : finite.FinMap nat_cmp Stored) (clauses : Clauses) (q : ℕ) (lits : List Literal)
    → clauses_in k ≡ clauses → IsSome (finite.get clauses q)
    → lits ≡ (unwrap_or (finite.get k q) no_clause).lits
    → IsSome (finite.get k q) × (family clauses q ≡ Some (members lits))

-- an id that is found after the clauses were moved leads to the clause that it led to before
abbrev pub MovedClausesKeepTheirIds : Type 0
MovedClausesKeepTheirIds =
    (old new : BaseState) (id : ℕ) (found : Option Place) → IsCompacted old new
    → IfSome found (HasIdAt new.clauses id) → IfNone found (LacksId new.clauses id)
    → IfSome found (λ place. (p : ℕ) × (c : BaseClause) × (finite.get old.clauses p ≡ Some c)
    × (c.id ≡ id) × (finite.get new.clauses place.0 ≡ Some c))
    × IfNone found (LacksId old.clauses id)
