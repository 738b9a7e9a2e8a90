-- satisfaction in propositional logic
use Rattle.std.specs.Prelude.{ℕ, Bool, false, not, if◌then◌else◌, List, IsTrue, All, slice_index_or}
use Rattle.std.specs.List.{list_any}
use Rattle.gr_logic.specs.Literals.{Literal}

-- the value of the variable with this index; a variable beyond the assignment is false
abbrev pub value_of : List Bool → ℕ → Bool
value_of a i = slice_index_or a i false

-- whether the assignment makes the literal true
abbrev pub literal_true : List Bool → Literal → Bool
literal_true a l = if l.positive then value_of a l.index else not (value_of a l.index)

-- whether it makes some literal of the clause true
abbrev pub clause_true : List Bool → List Literal → Bool
clause_true a c = list_any (literal_true a) c

-- the assignment satisfies the clause
abbrev pub Meets : List Bool → List Literal → Type 0
Meets a c = IsTrue (clause_true a c)

-- the assignment satisfies each of the clauses
abbrev pub MeetsAll : List Bool → List (List Literal) → Type 0
MeetsAll a cs = All (Meets a) cs

-- every assignment that satisfies the clauses satisfies this one
abbrev pub Implied : List (List Literal) → List Literal → Type 0
Implied cs c = (a : List Bool) → MeetsAll a cs → Meets a c

-- no assignment satisfies the clauses
abbrev pub IsUnsatisfiable : List (List Literal) → Type 0
IsUnsatisfiable cs = (a : List Bool) → MeetsAll a cs → ⊥
