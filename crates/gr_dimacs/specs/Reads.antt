-- what a reader answers to a text
use Rattle.std.specs.Prelude.{◌≡◌, ◌≤◌, ◌+◌, ℕ, List, ◌++◌, length, Option, Some, None, Result, Ok, Err}
use Rattle.gr_logic.specs.Formulas.{Cnf, IsBounded}
use Rattle.gr_dimacs.specs.Grammar.{Spells, SpellsWithin}
use Rattle.gr_dimacs.specs.Faults.{fault_of, IsWithin}
use Rattle.gr_dimacs.specs.declared.faults.FaultKind.TheVariants.{TooLong}
use Rattle.gr_dimacs.specs.declared.faults.ReadError.{ReadError}
use Rattle.gr_dimacs.specs.declared.faults.ReadError.TheVariants as errors
use Rattle.gr_dimacs.specs.declared.limits.Limits.{Limits}

-- the largest formula and the longest text that the program takes
abbrev pub program_limits : Limits
program_limits = record {
  vars = 1_000_000;
  clauses = 5_000_000;
  literals = 20_000_000;
  bytes = 4_294_967_296;
}

-- no limit is above that of the program
pub record IsLawful (limits : Limits) : Type 0 where
  pub vars : limits.vars ≤ program_limits.vars
  pub clauses : limits.clauses ≤ program_limits.clauses
  pub literals : limits.literals ≤ program_limits.literals
  pub bytes : limits.bytes ≤ program_limits.bytes

-- the text is at fault: neither a failed read nor want of memory is told
abbrev pub IsTold : ReadError → Type 0
IsTold (errors.Grammar g) = Unit {0}
IsTold errors.ReadFault = ⊥
IsTold errors.OutOfMemory = ⊥

-- a formula or a fault of the text is told
abbrev pub IsSettled : {T : Type 0} → Result T ReadError → Type 0
IsSettled (Ok x) = Unit {0}
IsSettled (Err failed) = IsTold failed

-- the text is too long
abbrev pub IsLong : ReadError → Type 0
IsLong (errors.Grammar g) = g.kind ≡ TooLong
IsLong errors.ReadFault = ⊥
IsLong errors.OutOfMemory = ⊥

-- it is told that the text is too long
abbrev pub IsTooLong : {T : Type 0} → Result T ReadError → Type 0
IsTooLong (Ok x) = ⊥
IsTooLong (Err failed) = IsLong failed

-- no more bytes were taken than may be looked at, and just as many where the text is too long
pub record CountsBytes (bytes : ℕ) (answer : Result Cnf ReadError) (old new : ℕ) : Type 0 where
  pub grows : old ≤ new
  pub few : new ≤ old + bytes
  pub full : IsTooLong answer → new ≡ old + bytes

-- the text spells this formula, and nothing in it is at fault
pub record IsFormulaOf (limits : Limits) (text : List ℕ) (f : Cnf) : Type 0 where
  pub spells : Spells text f
  pub faultless : fault_of limits text ≡ None
  pub within : IsWithin limits f
  pub bounded : IsBounded f

-- no token that counts within these bytes is at fault, and none ends the formula
pub record DecidesNothing (limits : Limits) (bytes : List ℕ) : Type 0 where
  pub line : ℕ
  pub too_long : fault_of (record limits { bytes = length bytes }) bytes ≡ Some
      (record { kind = TooLong; line = line })

-- the answer to a text, of which these bytes were taken
abbrev pub AnswersText : Limits → Result Cnf ReadError → List ℕ → List ℕ → Type 0
AnswersText limits (Ok f) text taken = IsFormulaOf limits text f
AnswersText limits (Err (errors.Grammar g)) text taken = fault_of limits text ≡ Some g
AnswersText limits (Err errors.ReadFault) text taken = DecidesNothing limits taken
AnswersText limits (Err errors.OutOfMemory) text taken = Unit {0}

-- the formula was read through: the text was taken up to its end, which is asked for as one byte more, or
-- up to the `%` that ends the formula
pub record IsReadThrough (text taken : List ℕ) (f : Cnf) : Type 0 where
  pub bytes : ℕ
  pub within : bytes ≤ length taken + 1
  pub spells : SpellsWithin bytes text f

-- only a formula is read through
abbrev pub ReadsThrough : Result Cnf ReadError → List ℕ → List ℕ → Type 0
ReadsThrough (Ok f) text taken = IsReadThrough text taken f
ReadsThrough (Err failed) text taken = Unit {0}

-- bytes of the text were taken, no more than may be, this rest of it is left, and the answer is that of
-- the text
pub record ReadsText (limits : Limits) (answer : Result Cnf ReadError) (text rest : List ℕ) : Type 0
  where
    pub taken : List ℕ
    pub split : text ≡ taken ++ rest
    pub within : length taken ≤ limits.bytes
    pub answers : AnswersText limits answer text taken
    pub through : ReadsThrough answer text taken

-- what a source had left was read; a source that tells its bytes goes on telling them, and no other begins to
abbrev pub Reads : Limits → Result Cnf ReadError → Option (List ℕ) → Option (List ℕ) → Type 0
Reads limits answer (Some text) (Some rest) = ReadsText limits answer text rest
Reads limits answer (Some text) None = ⊥
Reads limits answer None (Some rest) = ⊥
Reads limits answer None None = Unit {0}
