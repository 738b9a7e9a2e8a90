-- greedy strengthening of a clause (after Wieringa and Heljanko, SAT 2013; the order of the walk is this program's own)
use Rattle.std.specs.Prelude.{◌≡◌, ◌⊎◌, List, [], ◌∷◌, ◌++◌}
use Rattle.gr_logic.specs.Literals.{Literal, negation}
use Rattle.gr_logic.specs.Rup.{negated}
use Rattle.gr_logic.specs.Closure.{ClauseFamily, InClosure, DerivesConflict}

-- where no conflict is derived from the negations of the kept literals, the next one is left out if it is false there,
-- is the last that is kept if it is true, and is kept before the walk goes on if it is neither
abbrev pub WalksPast : ClauseFamily → List Literal → Literal → Type 0 → Type 0 → Type 0 → Type 0
WalksPast k kept l without last with =
    (InClosure k (negated kept) (negation l) × without)
    ⊎ (InClosure k (negated kept) l × last)
    ⊎ ((¬ InClosure k (negated kept) (negation l)) × (¬ InClosure k (negated kept) l) × with)

-- the walk through the rest of a clause, with these literals kept so far, keeps those in all: before each literal it
-- stops where a conflict is derived
abbrev pub WalkKeeps : ClauseFamily → List Literal → List Literal → List Literal → Type 0
WalkKeeps k kept [] outcome = outcome ≡ kept
WalkKeeps k kept (l ∷ rest) outcome =
    (DerivesConflict k (negated kept) × (outcome ≡ kept))
    ⊎ ((¬ DerivesConflict k (negated kept))
    × WalksPast k kept l (WalkKeeps k kept rest outcome) (outcome ≡ kept ++ l ∷ [])
    (WalkKeeps k (kept ++ l ∷ []) rest outcome))

-- greedy strengthening of the clause keeps these literals
abbrev pub GreedyKeeps : ClauseFamily → List Literal → List Literal → Type 0
GreedyKeeps k c outcome = WalkKeeps k [] c outcome
