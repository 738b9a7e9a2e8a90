-- lists of derived literals, as closures of lists of clauses
use Rattle.std.specs.Prelude.{◌≡◌, ◌↔◌, ◌||◌, Bool, true, List}
use Rattle.std.specs.List.{list_any}
use Rattle.gr_logic.specs.Literals.{Literal, negation}
use Rattle.gr_logic.specs.Rup.{members}
use Rattle.gr_logic.specs.Log.{is_empty}
use Rattle.gr_logic.specs.Closure.{listed, InClosure}

-- the list has the literals of the closure
abbrev pub IsClosureOf : List (List Literal) → List Literal → List Literal → Type 0
IsClosureOf clauses given derived =
    (l : Literal) → (members derived l ≡ true) ↔ InClosure (listed clauses) (members given) l

-- the list has a literal and its negation, or a clause is empty
abbrev pub is_conflict_of : List (List Literal) → List Literal → Bool
is_conflict_of clauses derived = list_any (λ l. members derived (negation l)) derived || list_any is_empty clauses
