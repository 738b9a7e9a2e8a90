-- what the loop over a trail assigns
use Rattle.std.specs.Prelude.{ℕ, ◌+◌, ◌%◌, if◌then◌else◌, nat_eq, Some, None}
use Rattle.gr_logic.specs.Literals.{Literal}
use Rattle.gr_trail.specs.Trails.{Assigned}

-- each 16th literal is a decision of a new level, and each other one is forced by the clause at its number
abbrev pub turn_of : ℕ → Literal → ℕ → Assigned
turn_of depth lit count =
    if nat_eq (count % 16) 0
    then record { lit = lit; level = depth + 1; reason = None }
    else record { lit = lit; level = depth; reason = Some (record { 0 = count }) }
