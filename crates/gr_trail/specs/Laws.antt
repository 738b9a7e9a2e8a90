-- what follows for every trail
use Rattle.std.specs.Prelude.{◌≡◌, ℕ, ◌<◌, ◌≤◌, true, false, Some, None, IsSome, option_map, slice_get}
use Rattle.gr_logic.specs.Literals.{Literal, negation, var_of}
use Rattle.gr_trail.specs.Trails.{Assigned, TrailState, IsTrail, true_in, value_in, assigned_to, up_to}

-- what comes earlier has no higher level, and a lower one than a decision
abbrev pub LevelsClimb : Type 0
LevelsClimb =
    (t : TrailState) (i j : ℕ) (a b : Assigned) → IsTrail t → slice_get t.assigned i ≡ Some a
    → slice_get t.assigned j ≡ Some b → i < j
    → (a.level ≤ b.level) × (b.reason ≡ None → a.level < b.level)

-- no level is above the depth, and what was assigned at level zero has a reason
abbrev pub LevelsHaveEnds : Type 0
LevelsHaveEnds =
    (t : TrailState) (var : ℕ) (a : Assigned) → IsTrail t → assigned_to t.assigned var ≡ Some a
    → (a.level ≤ t.depth) × (a.level ≡ 0 → IsSome a.reason)

-- a variable is assigned once, and what is assigned to it stands in the trail
abbrev pub VariablesStandOnce : Type 0
VariablesStandOnce =
    (t : TrailState) (n : ℕ) (a : Assigned) → IsTrail t → slice_get t.assigned n ≡ Some a
    → (assigned_to t.assigned (var_of a.lit) ≡ Some a)
    × ((i : ℕ) (b : Assigned) → slice_get t.assigned i ≡ Some b → b.lit.index ≡ a.lit.index → i ≡ n)

-- a literal whose negation is true is false
abbrev pub NegationsAreFalse : Type 0
NegationsAreFalse =
    (t : TrailState) (q : Literal) → IsTrail t → true_in t.assigned (negation q) ≡ true
    → value_in t.assigned q ≡ Some false

-- a trail that goes back forgets what was assigned above the level, and keeps what was assigned up to it
abbrev pub GoingBackForgetsWhatIsAbove : Type 0
GoingBackForgetsWhatIsAbove =
    (t : TrailState) (level : ℕ) (q : Literal) (a : Assigned) → IsTrail t
    → assigned_to t.assigned (var_of q) ≡ Some a
    → (level < a.level → value_in (up_to level t.assigned) q ≡ None)
    × (a.level ≤ level → assigned_to (up_to level t.assigned) (var_of q) ≡ Some a)
    × (a.level ≤ level → value_in t.assigned q ≡ Some false → value_in (up_to level t.assigned) q ≡ Some false)
