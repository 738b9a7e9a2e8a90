-- the order in which variables are decided: by the number of the last bump (VMTF: Ryan 2004; Biere and Fröhlich,
-- SAT 2015)
use Rattle.std.specs.Prelude.{◌≡◌, ℕ, ◌+◌, ◌-◌, ◌≤◌, Bool, true, false, List, length, min, replicate, Option, Some, None, slice_index, slice_index_or, slice_set}

-- how many variables there are and how many bumps there were, and of each variable, in order of number, its activity
-- and whether it is in
pub record OrderState : Type 0 where
  pub vars : ℕ
  pub bumps : ℕ
  pub activities : List ℕ
  pub present : List Bool

-- the activity of a variable, counted from 1: the number of its last bump, or 0
abbrev pub activity_of : OrderState → ℕ → ℕ
activity_of s var = slice_index s.activities (var - 1)

-- the variable is in
abbrev pub IsIn : OrderState → ℕ → Type 0
IsIn s var = (1 ≤ var) × (slice_index_or s.present (var - 1) false ≡ true)

-- at first no variable was bumped, and all are in
abbrev pub first_order : ℕ → OrderState
first_order n =
    record { vars = n; bumps = 0; activities = replicate n 0; present = replicate n true }

-- the number of the next bump: a number that would be above the greatest 64-bit number counts as that one
abbrev pub next_bump : OrderState → ℕ
next_bump s = min (s.bumps + 1) 18446744073709551615

-- the variable is bumped
abbrev pub bumped : OrderState → ℕ → OrderState
bumped s var = record s {
  bumps = next_bump s;
  activities = slice_set s.activities (var - 1) (next_bump s);
}

-- the variable is in, whether it was or not
abbrev pub put_in : OrderState → ℕ → OrderState
put_in s var = record s { present = slice_set s.present (var - 1) true }

-- the variable, if there is one, is out
abbrev pub without : OrderState → Option ℕ → OrderState
without s None = s
without s (Some var) = record s { present = slice_set s.present (var - 1) false }

-- the variable is in, none that is in is more active, and none that is as active has a lesser number
pub record IsPicked (s : OrderState) (var : ℕ) : Type 0 where
  pub known : var ≤ s.vars
  pub is_in : IsIn s var
  pub greatest : (other : ℕ) → IsIn s other → activity_of s other ≤ activity_of s var
  pub least : (other : ℕ) → IsIn s other → activity_of s other ≡ activity_of s var → var ≤ other

-- what is true of every order: each variable has its activity, the number of a bump, and is in or out
pub record IsOrder (s : OrderState) : Type 0 where
  pub few : s.vars ≤ 1000000
  pub each_active : length s.activities ≡ s.vars
  pub each_known : length s.present ≡ s.vars
  pub counted : s.bumps ≤ 18446744073709551615
  pub at_most : (var : ℕ) → activity_of s var ≤ s.bumps
