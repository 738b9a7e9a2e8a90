-- the text that a formula is written as
use Rattle.std.specs.Prelude.{ℕ, List, [], ◌∷◌, ◌++◌, length}
use Rattle.std.specs.List.{flat_map}
use Rattle.std.specs.Fmt.{decimal, signed_decimal}
use Rattle.gr_logic.specs.Literals.{Literal, number_of}
use Rattle.gr_logic.specs.Formulas.{Cnf}
use Rattle.gr_dimacs.specs.Grammar.{p_word, cnf_word}

-- a literal in decimal, and a space
abbrev pub literal_text : Literal → List ℕ
literal_text l = signed_decimal (number_of l) ++ 32 ∷ []

-- a clause on a line of its own, ended by 0
abbrev pub clause_text : List Literal → List ℕ
clause_text c = flat_map literal_text c ++ 48 ∷ 10 ∷ []

-- the header on a line of its own: p, cnf, the number of variables and that of clauses
abbrev pub header_text : ℕ → ℕ → List ℕ
header_text vars count =
    (p_word ++ 32 ∷ cnf_word ++ 32 ∷ [])
    ++ ((decimal vars ++ 32 ∷ []) ++ (decimal count ++ 10 ∷ []))

-- the header, and then the clauses in order
abbrev pub canonical_text : Cnf → List ℕ
canonical_text f = header_text f.vars (length f.clauses) ++ flat_map clause_text f.clauses
