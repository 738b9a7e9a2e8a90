-- the texts that spell a formula
use Rattle.std.specs.Prelude.{◌≡◌, ℕ, true, List, [], ◌∷◌, ◌++◌, length, map, All}
use Rattle.std.specs.List.{flat_map}
use Rattle.gr_logic.specs.Literals.{Literal}
use Rattle.gr_logic.specs.Formulas.{Cnf, VarsUpTo}
use Rattle.gr_dimacs.specs.Numbers.{Number, Zero, Lit, number, value, is_count, begins}
use Rattle.gr_dimacs.specs.Tokens.{Token, Ending, Whole, Short, tokens_of, ending_of, room_for}

-- the word p
abbrev pub p_word : List ℕ
p_word = 112 ∷ []

-- the word cnf
abbrev pub cnf_word : List ℕ
cnf_word = 99 ∷ 110 ∷ 102 ∷ []

-- a clause as numbers
abbrev pub numbers_of : List Literal → List Number
numbers_of c = map Lit c ++ Zero ∷ []

-- nothing follows in the whole text, or a token that begins with %
abbrev pub EndsFormula : List (List ℕ) → Ending → Type 0
EndsFormula [] (Whole line) = Unit {0}
EndsFormula [] (Short line) = ⊥
EndsFormula (w ∷ ws) end = begins 37 w ≡ true

-- the words spell the formula
pub record SpellsWords (words : List (List ℕ)) (end : Ending) (f : Cnf) : Type 0 where
  pub vars : List ℕ
  pub count : List ℕ
  pub body : List (List ℕ)
  pub rest : List (List ℕ)
  pub split : words ≡ p_word ∷ cnf_word ∷ vars ∷ count ∷ (body ++ rest)
  pub is_vars : is_count vars ≡ true
  pub vars_value : value vars ≡ f.vars
  pub is_clauses : is_count count ≡ true
  pub count_value : value count ≡ length f.clauses
  pub clauses : map number body ≡ flat_map numbers_of f.clauses
  pub within : All (VarsUpTo f.vars) f.clauses
  pub closed : EndsFormula rest end

-- the bytes of a token
abbrev pub word_of : Token → List ℕ
word_of t = t.word

-- so many bytes of the text spell the formula
abbrev pub SpellsWithin : ℕ → List ℕ → Cnf → Type 0
SpellsWithin limit text f = SpellsWords (map word_of (tokens_of limit text)) (ending_of limit text)
    f

-- the whole text spells the formula
abbrev pub Spells : List ℕ → Cnf → Type 0
Spells text f = SpellsWithin (room_for text) text f
