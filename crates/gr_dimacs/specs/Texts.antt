-- what a whole text is, by its tokens
use Rattle.std.specs.Prelude.{◌≡◌, ◌≤◌, ℕ, List, [], ◌∷◌, ◌++◌, map, Option, Some, None, Result, Ok, Err}
use Rattle.std.specs.Option.{option_map}
use Rattle.gr_io.specs.Pieces.{Rose}
use Rattle.gr_logic.specs.Literals.{Literal}
use Rattle.gr_logic.specs.Formulas.{Cnf}
use Rattle.gr_text.specs.Places.{known, taken, limit_of}
use Rattle.gr_text.specs.Stands.{Stand}
use Rattle.gr_dimacs.specs.Numbers.{Number, Zero, Lit, Other, number, value}
use Rattle.gr_dimacs.specs.Tokens.{tokens_of, ending_of}
use Rattle.gr_dimacs.specs.Grammar.{word_of}
use Rattle.gr_dimacs.specs.Faults.{first_fault}
use Rattle.gr_dimacs.specs.Finds.{Read, told}
use Rattle.gr_dimacs.specs.Building.{Building}
use Rattle.gr_dimacs.specs.Answers.{outcome_told}
use Rattle.gr_dimacs.specs.declared.faults.FaultKind.TheVariants.{TooLong}
use Rattle.gr_dimacs.specs.declared.faults.GrammarFault.{GrammarFault}
use Rattle.gr_dimacs.specs.declared.limits.Limits.{Limits}
use Rattle.gr_dimacs.specs.declared.faults.ReadError.{ReadError}
use Rattle.gr_dimacs.specs.declared.faults.ReadError.TheVariants as errors

-- numbers as clauses, behind a clause that was begun, up to the first token that is no number
abbrev pub grouped : List Literal → List Number → List (List Literal)
grouped present [] = []
grouped present (Zero ∷ ns) = present ∷ grouped [] ns
grouped present (Lit l ∷ ns) = grouped (present ++ l ∷ []) ns
grouped present (Other ∷ ns) = []

-- the formula of these words, where they are at no fault
abbrev pub formula_of : List (List ℕ) → Cnf
formula_of [] = record { vars = 0; clauses = [] }
formula_of (p ∷ []) = record { vars = 0; clauses = [] }
formula_of (p ∷ cnf ∷ []) = record { vars = 0; clauses = [] }
formula_of (p ∷ cnf ∷ v ∷ []) = record { vars = 0; clauses = [] }
formula_of (p ∷ cnf ∷ v ∷ c ∷ body) =
    record { vars = value v; clauses = grouped [] (map number body) }

-- the fault, or else the formula
abbrev pub result_of : Option GrammarFault → Cnf → Result Cnf GrammarFault
result_of None f = Ok f
result_of (Some g) f = Err g

-- the outcome of the tokens to come, behind these words
abbrev pub outcome_behind : Limits → List (List ℕ) → Read → Result Cnf GrammarFault
outcome_behind limits before x =
    result_of (first_fault limits before x.tokens x.end)
    (formula_of (before ++ map word_of x.tokens))

-- the outcome of what is still to come, behind these words
abbrev pub text_told : Limits → List (List ℕ) → ℕ → Stand → Option (Result Cnf GrammarFault)
text_told limits before limit s = option_map (outcome_behind limits before) (told limit s)

-- the header came, and this builder takes what follows it
abbrev pub Headed : Limits → Building → Stand → Stand → Type 0
Headed limits b old new =
    (limit : ℕ) → known new.place ≤ limit → text_told limits [] limit old ≡ outcome_told limit b new

-- so many bytes settle the outcome of the whole text
abbrev pub SettlesText : Limits → ℕ → Result Cnf GrammarFault → Stand → Stand → Type 0
SettlesText limits limit o old new = text_told limits [] limit old ≡ option_map (λ _. o) new.left

-- the header is at fault, or a read failed before anything was decided
abbrev pub HeaderFails : Limits → ReadError → Stand → Stand → Type 0
HeaderFails limits (errors.Grammar g) old new =
    SettlesText limits (limit_of old.place) (Err g) old new
HeaderFails limits errors.ReadFault old new =
    ((line : ℕ) × SettlesText limits (taken new.place)
    (Err (record { kind = TooLong; line = line })) old new)
    × Rose old.faults new.faults
HeaderFails limits errors.OutOfMemory old new = Unit {0}

-- the answer to reading the header
abbrev pub Header : Limits → Result Building ReadError → Stand → Stand → Type 0
Header limits (Ok b) old new = Headed limits b old new
Header limits (Err failed) old new = HeaderFails limits failed old new

-- the outcome of a text of which so many bytes may be looked at
abbrev pub outcome_of_text : Limits → ℕ → List ℕ → Result Cnf GrammarFault
outcome_of_text limits bytes text =
    outcome_behind limits [] (record { tokens = tokens_of bytes text; end = ending_of bytes text })

-- so many bytes of what the source had left settle the outcome
abbrev pub SettlesLeft : Limits → ℕ → Result Cnf GrammarFault → Stand → Stand → Type 0
SettlesLeft limits bytes o old new =
    option_map (outcome_of_text limits bytes) old.left ≡ option_map (λ _. o) new.left

-- reading gives the text's formula or its first fault, or a read failed before anything was decided
abbrev pub Decides : Result Cnf ReadError → Limits → Stand → Stand → Type 0
Decides (Ok f) limits old new =
    SettlesLeft limits limits.bytes (Ok f) old new × SettlesLeft limits (known new.place) (Ok f) old new
Decides (Err (errors.Grammar g)) limits old new = SettlesLeft limits limits.bytes (Err g) old new
Decides (Err errors.ReadFault) limits old new =
    ((line : ℕ) × SettlesLeft limits (taken new.place)
    (Err (record { kind = TooLong; line = line })) old new)
    × Rose old.faults new.faults
Decides (Err errors.OutOfMemory) limits old new = Unit {0}
