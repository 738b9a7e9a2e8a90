-- what reading the body answers
use Rattle.std.specs.Prelude.{◌≡◌, ◌≤◌, ℕ, Option, Result, Ok, Err}
use Rattle.std.specs.Option.{option_map}
use Rattle.gr_io.specs.Pieces.{Rose}
use Rattle.gr_logic.specs.Formulas.{Cnf}
use Rattle.gr_text.specs.Places.{known, taken, limit_of}
use Rattle.gr_text.specs.Stands.{Stand}
use Rattle.gr_dimacs.specs.Building.{Building, outcome, concluded, end_of}
use Rattle.gr_dimacs.specs.Finds.{Read, told}
use Rattle.gr_dimacs.specs.declared.faults.FaultKind.TheVariants.{TooLong}
use Rattle.gr_dimacs.specs.declared.faults.GrammarFault.{GrammarFault}
use Rattle.gr_dimacs.specs.declared.faults.ReadError.{ReadError}
use Rattle.gr_dimacs.specs.declared.faults.ReadError.TheVariants as errors

-- what the tokens to come make of the formula so far
abbrev pub outcome_of : Building → Read → Result Cnf GrammarFault
outcome_of b x = outcome b x.tokens x.end

-- the outcome of the text to come, of which so many bytes may be looked at
abbrev pub outcome_told : ℕ → Building → Stand → Option (Result Cnf GrammarFault)
outcome_told limit b s = option_map (outcome_of b) (told limit s)

-- so many bytes settle the outcome
abbrev pub Settles : ℕ → Result Cnf GrammarFault → Building → Stand → Stand → Type 0
Settles limit o b old new = outcome_told limit b old ≡ option_map (λ _. o) new.left

-- the formula or the fault is that of the text; after a failed read what was taken decides nothing
abbrev pub Answers : Result Cnf ReadError → Building → Stand → Stand → Type 0
Answers (Ok f) b old new =
    Settles (limit_of old.place) (Ok f) b old new × Settles (known new.place) (Ok f) b old new
Answers (Err (errors.Grammar g)) b old new = Settles (limit_of old.place) (Err g) b old new
Answers (Err errors.ReadFault) b old new =
    (known old.place ≤ taken new.place)
    × ((line : ℕ) × Settles (taken new.place) (Err (record { kind = TooLong; line = line })) b old
    new)
    × Rose old.faults new.faults
Answers (Err errors.OutOfMemory) b old new = Unit {0}

-- what the end of the formula gives
abbrev pub Concludes : Result Cnf ReadError → ℕ → Building → Type 0
Concludes (Ok f) line b = (later : Result Cnf GrammarFault) →
    concluded (end_of b) line b later ≡ Ok f
Concludes (Err (errors.Grammar g)) line b = (later : Result Cnf GrammarFault) →
    concluded (end_of b) line b later ≡ Err g
Concludes (Err errors.ReadFault) line b = ⊥
Concludes (Err errors.OutOfMemory) line b = ⊥
