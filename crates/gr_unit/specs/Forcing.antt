-- which literals the clauses of a list force
use Rattle.std.specs.Prelude.{◌≡◌, ◌<◌, ◌||◌, ℕ, Bool, true, List, [], length, slice_index_or}
use Rattle.std.specs.List.{list_all}
use Rattle.gr_logic.specs.Literals.{Literal, negation, same_literal}
use Rattle.gr_logic.specs.Rup.{LiteralSet, members}
use Rattle.gr_logic.specs.Closure.{Forces}

-- all literals of the clause but this one are false
abbrev pub others_false : LiteralSet → List Literal → Literal → Bool
others_false set c l = list_all (λ q. same_literal q l || set (negation q)) c

-- all literals of the clause are false
abbrev pub AreAllFalse : LiteralSet → List Literal → Type 0
AreAllFalse set c = (q : Literal) → members c q ≡ true → set (negation q) ≡ true

-- the set has each literal that the clause forces
abbrev pub HasForced : LiteralSet → List Literal → Type 0
HasForced set c = (l : Literal) → Forces set (members c) l → set l ≡ true

-- the clause at the place forces the literal
abbrev pub IsForcedAt : List (List Literal) → LiteralSet → ℕ → Literal → Type 0
IsForcedAt clauses set place l =
    (place < length clauses) × Forces set (members (slice_index_or clauses place [])) l
