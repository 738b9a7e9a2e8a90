-- what the next token outside comments is
use Rattle.std.specs.Prelude.{◌≡◌, ◌≤◌, ◌<◌, ℕ, Bool, false, List, [], ◌∷◌, Option, Result, Ok, Err}
use Rattle.std.specs.Option.{option_map}
use Rattle.gr_io.specs.Pieces.{Rose}
use Rattle.gr_text.specs.Tokens.{Mark}
use Rattle.gr_text.specs.Places.{known, taken, coming}
use Rattle.gr_text.specs.declared.scanners.ScanError.{ScanError}
use Rattle.gr_text.specs.declared.scanners.ScanError.TheVariants as errors
use Rattle.gr_text.specs.Stands.{Stand}
use Rattle.gr_dimacs.specs.Tokens.{Token, Ending, Whole, Short, outside, ending}
use Rattle.gr_dimacs.specs.declared.tokens.Found.{Found}
use Rattle.gr_dimacs.specs.declared.tokens.Found.TheVariants as founds

-- the tokens of a text, and how it ends
pub record Read : Type 0 where
  pub tokens : List Token
  pub end : Ending

-- what marks tell, outside a comment or inside one
abbrev pub read_of : Bool → List Mark → Read
read_of comment marks = record { tokens = outside comment marks; end = ending marks }

-- what is still to come, where so many bytes of the text may be looked at
abbrev pub told : ℕ → Stand → Option Read
told limit s = option_map (read_of false) (coming limit s.place s.left)

-- one more token before the others
abbrev pub behind : ℕ → List ℕ → Read → Read
behind line word r = record { tokens = record { line = line; word = word } ∷ r.tokens; end = r.end }

-- no token, and the end
abbrev pub over : Ending → Read
over end = record { tokens = []; end = end }

-- the scanner's token came next, on this line
abbrev pub Heads : ℕ → Stand → Stand → Type 0
Heads line old new =
    (limit : ℕ) → known new.place ≤ limit →
    told limit old ≡ option_map (behind line new.place.token) (told limit new)

-- within so many bytes nothing came but the end
abbrev pub EndsIn : ℕ → Ending → Stand → Stand → Type 0
EndsIn limit end old new = told limit old ≡ option_map (λ _. over end) new.left

-- a token came, whose bytes were passed, or the text's end
abbrev pub Finds : Found → Stand → Stand → Type 0
Finds (founds.Token line) old new = Heads line old new × (old.place.passed < new.place.passed)
Finds (founds.End line) old new = (limit : ℕ) → known new.place ≤ limit →
    EndsIn limit (Whole line) old new

-- no token came whole within the bytes that were taken, and the text's end was not met
abbrev pub FindFails : ScanError → Stand → Stand → Type 0
FindFails (errors.TooLong line) old new =
    EndsIn (taken new.place) (Short line) old
    new × (new.place.spare ≡ 0) × (new.place.ended ≡ false)
FindFails errors.ReadFault old new =
    EndsIn (taken new.place) (Short new.place.last) old new × (new.place.ended ≡ false) × Rose
    old.faults new.faults
FindFails errors.OutOfMemory old new = Unit {0}

-- the answer to a call for the next token
abbrev pub NextToken : Result Found ScanError → Stand → Stand → Type 0
NextToken (Ok found) old new = Finds found old new
NextToken (Err failed) old new = FindFails failed old new
