-- normal forms of clauses
use Rattle.std.specs.Prelude.{◌≡◌, ◌≢◌, true, not, if◌then◌else◌, List, [], ◌∷◌, ◌++◌}
use Rattle.std.specs.List.{filter}
use Rattle.gr_logic.specs.Literals.{Literal, negation, same_literal}
use Rattle.gr_logic.specs.Rup.{members}
use Rattle.gr_logic.specs.declared.normal_forms.Normal.{Normal}
use Rattle.gr_logic.specs.declared.normal_forms.Normal.TheVariants.{Clause, Tautology}

-- the clause has a literal and its negation
abbrev pub IsTautology : List Literal → Type 0
IsTautology c = (l : Literal) × (members c l ≡ true) × (members c (negation l) ≡ true)

-- the clause's literals, each where it stands first
abbrev pub first_occurrences : List Literal → List Literal
first_occurrences [] = []
first_occurrences (l ∷ ls) = l ∷ filter (λ q. not (same_literal q l)) (first_occurrences ls)

-- the literals have different variables: none stands there twice, and none beside its negation
abbrev pub IsNormal : List Literal → Type 0
IsNormal [] = Unit {0}
IsNormal (l ∷ ls) = ((q : Literal) → members ls q ≡ true → q.index ≢ l.index) × IsNormal ls

-- a tautology is told as such, and any other clause is normal by its first occurrences
abbrev pub IsNormalFormOf : List Literal → Normal → Type 0
IsNormalFormOf c Tautology = IsTautology c
IsNormalFormOf c (Clause firsts) = (¬ IsTautology c) × (firsts ≡ first_occurrences c)

-- the list with a literal that is new to it at its end
abbrev pub with_new : List Literal → Literal → List Literal
with_new ls l = if members ls l then ls else ls ++ l ∷ []
