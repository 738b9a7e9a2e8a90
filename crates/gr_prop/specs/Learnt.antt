-- what a conflict teaches, before the trail goes back
use Rattle.std.specs.Prelude.{◌≡◌, ◌<◌, ◌≤◌, ℕ, false, List, [], ◌∷◌, All, Some}
use Rattle.gr_logic.specs.Literals.{Literal, var_of}
use Rattle.gr_trail.specs.Trails.{Assigned, TrailState, assigned_to, value_in}

-- the literal is false, and its variable got its value at no level above this one
pub record IsUpTo (t : TrailState) (level : ℕ) (q : Literal) : Type 0 where
  pub is : Assigned
  pub assigned : assigned_to t.assigned (var_of q) ≡ Some is
  pub low : is.level ≤ level
  pub false' : value_in t.assigned q ≡ Some false

-- the first variable got its value above the level, the second at it, and none of the others above it
pub record IsLearntOf (t : TrailState) (first second : Literal) (rest : List Literal) (level : ℕ)
    : Type 0 where
  pub is : Assigned
  pub assigned : assigned_to t.assigned (var_of first) ≡ Some is
  pub above : level < is.level
  pub others : All (IsUpTo t level) (second ∷ rest)
  pub at : Assigned
  pub second_assigned : assigned_to t.assigned (var_of second) ≡ Some at
  pub second_level : at.level ≡ level

-- the clause is one that forces its first literal once the trail went back to the level
abbrev pub IsLearntAt : TrailState → List Literal → ℕ → Type 0
IsLearntAt t [] level = ⊥
IsLearntAt t (first ∷ []) level = ⊥
IsLearntAt t (first ∷ second ∷ rest) level = IsLearntOf t first second rest level
