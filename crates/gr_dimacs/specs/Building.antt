-- a formula as it is read
use Rattle.std.specs.Prelude.{◌≡◌, ◌≤◌, ◌<◌, ◌+◌, ◌-◌, ◌^◌, ℕ, Bool, true, false, not, ◌&&◌, nat_lt, min, if◌then◌else◌, List, [], ◌∷◌, ◌++◌, length, Result, Ok, Err}
use Rattle.gr_logic.specs.Literals.{Literal}
use Rattle.gr_logic.specs.Formulas.{Cnf, VarsUpTo}
use Rattle.gr_dimacs.specs.Numbers.{Number, Zero, Lit, Other, number, begins}
use Rattle.gr_dimacs.specs.Tokens.{Token, Ending, Whole, Short}
use Rattle.gr_dimacs.specs.Faults.{Verdict, Bad, Closing, Fine, number_verdict}
use Rattle.gr_dimacs.specs.declared.faults.FaultKind.{FaultKind}
use Rattle.gr_dimacs.specs.declared.faults.FaultKind.TheVariants.{TooFew, Unended, TooLong}
use Rattle.gr_dimacs.specs.declared.faults.GrammarFault.{GrammarFault}
use Rattle.gr_dimacs.specs.declared.builders.TakeError.{TakeError}
use Rattle.gr_dimacs.specs.declared.builders.TakeError.TheVariants as errors
use Rattle.gr_dimacs.specs.declared.numerals.Numeral.{Numeral}
use Rattle.gr_dimacs.specs.declared.numerals.Numeral.TheVariants as numerals

-- a literal of this size, or of any size from the cap on
pub record IsSized (size : ℕ) (positive : Bool) (n : Number) : Type 0 where
  pub value : ℕ
  pub some : 0 < value
  pub capped : size ≡ min value (2 ^ 63)
  pub number : n ≡ Lit (record { index = value - 1; positive = positive })

-- what the code makes of a token is what the grammar makes of it
abbrev pub SaysNumber : Numeral → Number → Type 0
SaysNumber numerals.Zero n = n ≡ Zero
SaysNumber (numerals.Literal size positive) n = IsSized size positive n
SaysNumber numerals.Other n = n ≡ Other

-- the header's counts, the room for literals, how many were read, the clauses that are whole, and the
-- one that was begun
pub record Building : Type 0 where
  pub vars : ℕ
  pub count : ℕ
  pub room : ℕ
  pub read : ℕ
  pub clauses : List (List Literal)
  pub clause : List Literal

-- a formula of which these clauses are whole
abbrev pub building : ℕ → ℕ → ℕ → ℕ → List (List Literal) → List Literal → Building
building vars count room read clauses clause =
    record {
      vars = vars;
      count = count;
      room = room;
      read = read;
      clauses = clauses;
      clause =
          clause;
    }

-- no clause was begun
abbrev pub is_nil : List Literal → Bool
is_nil [] = true
is_nil (l ∷ ls) = false

-- the verdict on a number, and on a token as a number
abbrev pub judge : Building → Number → Verdict
judge b n = number_verdict b.room b.vars b.count (is_nil b.clause) (length b.clauses) b.read n

-- the verdict on a token as a number
abbrev pub verdict_in : Building → List ℕ → Verdict
verdict_in b w = judge b (number w)

-- a number was taken: it ends the clause, or stands in it
abbrev pub with_number : Building → Number → Building
with_number b Zero = record b { clauses = b.clauses ++ b.clause ∷ []; clause = [] }
with_number b (Lit l) = record b { clause = b.clause ++ l ∷ []; read = b.read + 1 }
with_number b Other = b

-- the number is at no fault, and was taken
abbrev pub TakesNumber : Number → Building → Building → Type 0
TakesNumber n old new = (judge old n ≡ Fine) × (new ≡ with_number old n)

-- a number is refused only for its own fault
abbrev pub RefusesNumber : Number → TakeError → Building → Type 0
RefusesNumber n failed b = (kind : FaultKind) → failed ≡ errors.Bad kind → judge b n ≡ Bad kind

-- what a builder keeps
pub record IsSound (b : Building) : Type 0 where
  pub vars : b.vars ≤ 1_000_000
  pub count : b.count ≤ 5_000_000
  pub room : b.room ≤ 20_000_000
  pub read : b.read ≤ b.room
  pub most : length b.clauses ≤ b.count
  pub begun : is_nil b.clause ≡ false → length b.clauses < b.count
  pub within : VarsUpTo b.vars b.clause

-- a token behind the header
abbrev pub token_verdict : Building → List ℕ → Verdict
token_verdict b w =
    if begins 37 w && is_nil
    b.clause then (if nat_lt (length b.clauses) b.count then Bad TooFew else Closing)
    else verdict_in b w

-- the end of the formula
abbrev pub end_of : Building → Verdict
end_of b =
    if not (is_nil b.clause) then Bad Unended else
    if nat_lt (length b.clauses) b.count then Bad TooFew else Closing

-- the formula of the whole clauses
abbrev pub formula_in : Building → Cnf
formula_in b = record { vars = b.vars; clauses = b.clauses }

-- a verdict at a line: the fault, the formula, or what comes later
abbrev pub concluded : Verdict → ℕ → Building → Result Cnf GrammarFault → Result Cnf GrammarFault
concluded (Bad k) line b later = Err (record { kind = k; line = line })
concluded Closing line b later = Ok (formula_in b)
concluded Fine line b later = later

-- what the tokens to come make of the formula so far
abbrev pub outcome : Building → List Token → Ending → Result Cnf GrammarFault
outcome b [] (Short line) = Err (record { kind = TooLong; line = line })
outcome b [] (Whole line) = concluded (end_of b) line b (Ok (formula_in b))
outcome b (t ∷ ts) end =
    concluded (token_verdict b t.word) t.line b (outcome (with_number b (number t.word)) ts end)
