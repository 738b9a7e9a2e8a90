-- rings of variables, in which each variable has another value than the next one: a two-colouring of a cycle
use Rattle.std.specs.Prelude.{ℕ, ◌+◌, ◌-◌, true, false, List, [], ◌∷◌, ◌++◌}
use Rattle.std.specs.List.{flat_map, range_with_len}
use Rattle.gr_logic.specs.Literals.{Literal}
use Rattle.gr_logic.specs.Formulas.{Cnf}

-- the variable with the index is true
abbrev pub is : ℕ → Literal
is i = record { index = i; positive = true }

-- the variable with the index is false
abbrev pub is_not : ℕ → Literal
is_not i = record { index = i; positive = false }

-- two variables have different values: one of them is true, and one of them is false
abbrev pub differ : ℕ → ℕ → List (List Literal)
differ i j = (is i ∷ is j ∷ []) ∷ (is_not i ∷ is_not j ∷ []) ∷ []

-- each of the first n variables differs from the next one
abbrev pub chain : ℕ → List (List Literal)
chain n = flat_map (λ i. differ i (i + 1)) (range_with_len 0 n)

-- the chain of n variables, the last of which differs from the first
abbrev pub ring : ℕ → Cnf
ring n = record { vars = n; clauses = chain (n - 1) ++ differ (n - 1) 0 }
