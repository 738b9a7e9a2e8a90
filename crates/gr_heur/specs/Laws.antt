-- what follows for every order
use Rattle.std.specs.Prelude.{◌≢◌, ◌↔◌, ℕ, ◌≤◌, Some}
use Rattle.gr_heur.specs.Orders.{OrderState, IsOrder, IsIn, put_in, without}

-- a variable that is put back is in, and others are in exactly where they were
abbrev pub PutsOneIn : Type 0
PutsOneIn =
    (s : OrderState) (var : ℕ) → IsOrder s → 1 ≤ var → var ≤ s.vars
    → IsIn (put_in s var) var × ((other : ℕ) → other ≢ var → IsIn (put_in s var) other ↔ IsIn s other)

-- a variable that is taken out is out, and others are in exactly where they were
abbrev pub TakesOneOut : Type 0
TakesOneOut =
    (s : OrderState) (var : ℕ) → IsOrder s → 1 ≤ var → var ≤ s.vars
    → (¬ IsIn (without s (Some var)) var)
    × ((other : ℕ) → other ≢ var → IsIn (without s (Some var)) other ↔ IsIn s other)
