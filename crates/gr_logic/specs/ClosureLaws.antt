-- the laws of unit closure, of greedy strengthening and of normal forms
use Rattle.std.specs.Prelude.{◌≡◌, ℕ, List, All}
use Rattle.gr_logic.specs.Literals.{Literal}
use Rattle.gr_logic.specs.Rup.{LiteralSet, Live, members, rup}
use Rattle.gr_logic.specs.Closure.{ClauseFamily, family_of, IsWithin, IsPartOf, InClosure, DerivesConflict}
use Rattle.gr_logic.specs.Greedy.{GreedyKeeps}
use Rattle.gr_logic.specs.NormalForms.{IsTautology, IsNormal, first_occurrences}

-- the unit steps read each clause, and the lemma too, by its members alone: not by their order or number
abbrev pub UnitStepsReadSets : Type 0
UnitStepsReadSets =
    (one other : Live) → ((id : ℕ) → family_of one id ≡ family_of other id)
    → (c d : List Literal) → members c ≡ members d
    → (hints : List ℕ) → rup one c hints ≡ rup other d hints

-- and they read the clauses that the hints name alone
abbrev pub UnitStepsReadHints : Type 0
UnitStepsReadHints =
    (one other : Live) (c d : List Literal) → members c ≡ members d
    → (hints : List ℕ) → All (λ id. family_of one id ≡ family_of other id) hints
    → rup one c hints ≡ rup other d hints

-- more clauses and more given literals derive no less: so two families of the same clauses have the same closure
abbrev pub ClosureGrows : Type 0
ClosureGrows =
    (few more : ClauseFamily) → IsPartOf few more → (one other : LiteralSet) → IsWithin one other
    → ((l : Literal) → InClosure few one l → InClosure more other l)
    × (DerivesConflict few one → DerivesConflict more other)

-- greedy strengthening has no two outcomes
abbrev pub GreedyIsUnique : Type 0
GreedyIsUnique =
    (k : ClauseFamily) (c one other : List Literal) → GreedyKeeps k c one → GreedyKeeps k c other → one ≡ other

-- greedy strengthening keeps literals of the clause alone
abbrev pub GreedyIsWithin : Type 0
GreedyIsWithin =
    (k : ClauseFamily) (c outcome : List Literal) → GreedyKeeps k c outcome → IsWithin (members outcome) (members c)

-- the first occurrences in a clause that is no tautology are normal, and have the clause's literals
abbrev pub NormalFormsAreNormal : Type 0
NormalFormsAreNormal =
    (c : List Literal) → ¬ IsTautology c
    → IsNormal (first_occurrences c) × (members (first_occurrences c) ≡ members c)
