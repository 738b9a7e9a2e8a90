-- the sums that the loops are compared by
use Rattle.std.specs.Prelude.{ℕ, ◌+◌, List}
use Rattle.std.specs.List.{sum_by}
use Rattle.gr_logic.specs.Literals.{Literal}
use Rattle.gr_logic.specs.Codes.{code_of}
use Rattle.gr_logic.specs.declared.places.Place.{Place}
use Rattle.gr_arena.specs.Arenas.{ArenaState, at}
use Rattle.gr_watch.specs.declared.lists.Watch.{Watch}

-- the sum of the literals' codes
abbrev pub codes_of : List Literal → ℕ
codes_of lits = sum_by code_of lits

-- the sum of the codes of the literals of the clauses at these places
abbrev pub codes_of_clauses : ArenaState → List Place → ℕ
codes_of_clauses a places = sum_by (λ place. codes_of (at a place).lits) places

-- the sum of the watches' places and of their blockers' codes
abbrev pub places_and_blockers : List Watch → ℕ
places_and_blockers list = sum_by (λ w. w.place.0 + code_of w.blocker) list
