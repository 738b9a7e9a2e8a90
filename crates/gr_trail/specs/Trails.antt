-- the trail of a search (MiniSat, Eén and Sörensson 2003): what was assigned, in order
use Rattle.std.specs.Prelude.{◌≡◌, ℕ, ◌+◌, ◌<◌, ◌≤◌, Bool, true, false, List, [], ◌∷◌, map, length, All, AllPairs, Option, Some, None, nat_eq, nat_le, if◌then◌else◌, ◌≢◌}
use Rattle.std.specs.List.{list_any, filter, find}
use Rattle.gr_logic.specs.Literals.{Literal, negation, same_literal, var_of}
use Rattle.gr_logic.specs.Rup.{LiteralSet}
use Rattle.gr_logic.specs.declared.places.Place.{Place}

-- a literal that was made true, its decision level, and the clause that forced it; a decision has none
pub record Assigned : Type 0 where
  pub lit : Literal
  pub level : ℕ
  pub reason : Option Place

-- a number of variables, the present decision level, and what was assigned, in order
pub record TrailState : Type 0 where
  pub vars : ℕ
  pub depth : ℕ
  pub assigned : List Assigned

-- the literals, in order
abbrev pub lits_of : List Assigned → List Literal
lits_of assigned = map (λ a. a.lit) assigned

-- the set of the literals
abbrev pub true_in : List Assigned → LiteralSet
true_in assigned q = list_any (λ a. same_literal q a.lit) assigned

-- what the trail says of a literal
abbrev pub value_in : List Assigned → Literal → Option Bool
value_in assigned l =
    if true_in assigned l then Some true
    else (if true_in assigned (negation l) then Some false else None)

-- what was assigned to a variable
abbrev pub assigned_to : List Assigned → ℕ → Option Assigned
assigned_to assigned var = find (λ a. nat_eq (var_of a.lit) var) assigned

-- what stays when the trail goes back to a level
abbrev pub up_to : ℕ → List Assigned → List Assigned
up_to level assigned = filter (λ a. nat_le a.level level) assigned

-- the reason of an assignment, where it is the variable's, becomes this clause
abbrev pub reason_at : ℕ → Place → Assigned → Assigned
reason_at var place a =
    if nat_eq (var_of a.lit) var then record a { reason = Some place } else a

-- the variable's reason becomes this clause
abbrev pub with_reason : List Assigned → ℕ → Place → List Assigned
with_reason assigned var place = map (reason_at var place) assigned

-- the level of what comes next: a decision opens a new one
abbrev pub level_after : ℕ → Option Place → ℕ
level_after level None = level + 1
level_after level (Some place) = level

-- each decision opens the next level, and what is forced belongs to the level that is open
abbrev pub Climbs : ℕ → List Assigned → ℕ → Type 0
Climbs level [] depth = level ≡ depth
Climbs level (a ∷ rest) depth = (a.level ≡ level_after level a.reason) × Climbs a.level rest depth

-- what is true of every trail: its variables are known, none is assigned twice, and levels begin with
-- their decisions
pub record IsTrail (t : TrailState) : Type 0 where
  pub short : length t.assigned ≤ t.vars
  pub within : All (λ a. a.lit.index < t.vars) t.assigned
  pub distinct : AllPairs (λ a b. a.lit.index ≢ b.lit.index) t.assigned
  pub climbs : Climbs 0 t.assigned t.depth
