-- the first fault of a text
use Rattle.std.specs.Prelude.{◌≤◌, ◌+◌, ℕ, Bool, true, false, not, ◌&&◌, if◌then◌else◌, nat_eq, nat_lt, nat_le, List, [], ◌∷◌, ◌++◌, length, map, Option, Some, None}
use Rattle.gr_logic.specs.Literals.{Literal}
use Rattle.gr_logic.specs.Formulas.{Cnf}
use Rattle.gr_dimacs.specs.Numbers.{Number, Zero, Lit, Other, number, value, is_count, begins}
use Rattle.gr_dimacs.specs.Tokens.{Token, Ending, Whole, Short, tokens_of, ending_of}
use Rattle.gr_dimacs.specs.Grammar.{p_word, cnf_word}
use Rattle.gr_dimacs.specs.declared.faults.FaultKind.{FaultKind}
use Rattle.gr_dimacs.specs.declared.faults.FaultKind.TheVariants.{NoHeader, BadHeader, BadToken, VarAbove, TooMany, TooFew, Unended, TooLarge, TooLong}
use Rattle.gr_dimacs.specs.declared.faults.GrammarFault.{GrammarFault}
use Rattle.gr_dimacs.specs.declared.limits.Limits.{Limits}

-- what a token is where it stands: at fault, the formula's end, or neither
pub data Verdict : Type 0 where
  Bad : FaultKind → Verdict
  Closing : Verdict
  Fine : Verdict

-- a number that ends a clause
abbrev pub is_zero : Number → Bool
is_zero Zero = true
is_zero (Lit l) = false
is_zero Other = false

-- how many clauses the numbers end
abbrev pub ended : List Number → ℕ
ended [] = 0
ended (n ∷ ns) = (if is_zero n then 1 else 0) + ended ns

-- how many literals the numbers have
abbrev pub literals : List Number → ℕ
literals [] = 0
literals (n ∷ ns) = (if is_zero n then 0 else 1) + literals ns

-- after these numbers a clause would begin
abbrev pub is_between : List Number → Bool
is_between [] = true
is_between (n ∷ []) = is_zero n
is_between (n ∷ m ∷ ns) = is_between (m ∷ ns)

-- no fault, or this one
abbrev pub expect : Bool → FaultKind → Verdict
expect good kind = if good then Fine else Bad kind

-- two words are one
abbrev pub same_word : List ℕ → List ℕ → Bool
same_word [] [] = true
same_word [] (b ∷ bs) = false
same_word (a ∷ as_) [] = false
same_word (a ∷ as_) (b ∷ bs) = nat_eq a b && same_word as_ bs

-- a count of the header
abbrev pub count_verdict : ℕ → List ℕ → Verdict
count_verdict limit w = if is_count w then expect (nat_le (value w) limit) TooLarge else Bad
    BadHeader

-- a number, where so many clauses were ended and so many literals were read
abbrev pub number_verdict : ℕ → ℕ → ℕ → Bool → ℕ → ℕ → Number → Verdict
number_verdict room vars count between done read Other = Bad BadToken
number_verdict room vars count between done read Zero =
    if between && nat_le count done then Bad TooMany else Fine
number_verdict room vars count between done read (Lit l) =
    if between && nat_le count done then Bad TooMany else
    if nat_le vars l.index then Bad VarAbove else
    expect (nat_lt read room) TooLarge

-- a token after the header, behind these numbers
abbrev pub body_verdict : ℕ → ℕ → ℕ → List Number → List ℕ → Verdict
body_verdict room vars count ns w =
    if begins 37 w && is_between
    ns then (if nat_lt (ended ns) count then Bad TooFew else Closing) else
    number_verdict room vars count (is_between ns) (ended ns) (literals ns) (number w)

-- a token, behind these ones
abbrev pub verdict : Limits → List (List ℕ) → List ℕ → Verdict
verdict limits [] w = expect (same_word w p_word) NoHeader
verdict limits (p ∷ []) w = expect (same_word w cnf_word) BadHeader
verdict limits (p ∷ cnf ∷ []) w = count_verdict limits.vars w
verdict limits (p ∷ cnf ∷ v ∷ []) w = count_verdict limits.clauses w
verdict limits (p ∷ cnf ∷ v ∷ c ∷ body) w =
    body_verdict limits.literals (value v) (value c) (map number body) w

-- the text's end, behind these tokens
abbrev pub end_verdict : List (List ℕ) → Verdict
end_verdict [] = Bad NoHeader
end_verdict (p ∷ []) = Bad BadHeader
end_verdict (p ∷ cnf ∷ []) = Bad BadHeader
end_verdict (p ∷ cnf ∷ v ∷ []) = Bad BadHeader
end_verdict (p ∷ cnf ∷ v ∷ c ∷ body) =
    if not (is_between (map number body)) then Bad Unended else
    if nat_lt (ended (map number body)) (value c) then Bad TooFew else Closing

-- a verdict at a line, and what comes after a token that is neither
abbrev pub settled : Verdict → ℕ → Option GrammarFault → Option GrammarFault
settled (Bad k) line later = Some (record { kind = k; line = line })
settled Closing line later = None
settled Fine line later = later

-- the first fault of what follows these tokens
abbrev pub first_fault : Limits → List (List ℕ) → List Token → Ending → Option GrammarFault
first_fault limits before [] (Whole line) = settled (end_verdict before) line None
first_fault limits before [] (Short line) = Some (record { kind = TooLong; line = line })
first_fault limits before (t ∷ ts) end =
    settled (verdict limits before t.word) t.line
    (first_fault limits (before ++ t.word ∷ []) ts end)

-- the first fault of a text, of which so many bytes may be looked at as the limits say
abbrev pub fault_of : Limits → List ℕ → Option GrammarFault
fault_of limits text =
    first_fault limits [] (tokens_of limits.bytes text) (ending_of limits.bytes text)

-- how many literals the clauses have in all
abbrev pub literal_count : List (List Literal) → ℕ
literal_count [] = 0
literal_count (c ∷ cs) = length c + literal_count cs

-- the formula is within the limits
pub record IsWithin (limits : Limits) (f : Cnf) : Type 0 where
  pub vars : f.vars ≤ limits.vars
  pub clauses : length f.clauses ≤ limits.clauses
  pub literals : literal_count f.clauses ≤ limits.literals
