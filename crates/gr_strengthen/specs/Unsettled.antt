-- literals of the trail whose reasons are no unit clauses
use Rattle.std.specs.Prelude.{◌<◌, ℕ, List, length, slice_index_or}
use Rattle.gr_trail.specs.Trails.{Assigned}
use Rattle.gr_prop.specs.Bases.{Clauses}
use Rattle.gr_strengthen.specs.Holding.{HasUnitReason}

-- the reason of the literal at an index, if there is one, is no unit clause
abbrev pub IsUnsettledAt : Clauses → List Assigned → ℕ → Type 0
IsUnsettledAt clauses assigned index =
    (d : Assigned) → index < length assigned → ¬ HasUnitReason clauses (slice_index_or assigned index d)
