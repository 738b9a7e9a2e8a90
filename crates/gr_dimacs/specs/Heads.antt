-- the tokens of the header, one at a time
use Rattle.std.specs.Prelude.{◌≡◌, ◌≤◌, ◌⊎◌, ℕ, true, false, List, Result, Ok, Err}
use Rattle.gr_io.specs.Pieces.{Rose}
use Rattle.gr_text.specs.Places.{taken, limit_of}
use Rattle.gr_text.specs.Stands.{Stand}
use Rattle.gr_dimacs.specs.Numbers.{value, is_count}
use Rattle.gr_dimacs.specs.Tokens.{Whole, Short}
use Rattle.gr_dimacs.specs.Finds.{Heads, EndsIn}
use Rattle.gr_dimacs.specs.Faults.{Verdict, Bad, expect, same_word, count_verdict}
use Rattle.gr_dimacs.specs.declared.faults.FaultKind.{FaultKind}
use Rattle.gr_dimacs.specs.declared.faults.FaultKind.TheVariants.{BadHeader, TooLong}
use Rattle.gr_dimacs.specs.declared.faults.ReadError.{ReadError}
use Rattle.gr_dimacs.specs.declared.faults.ReadError.TheVariants as errors

-- no token came: the text ends, which is the given fault, or too many bytes are wanted, or reading failed
abbrev pub HeadFails : FaultKind → ReadError → Stand → Stand → Type 0
HeadFails at_end (errors.Grammar g) old new =
    ((g.kind ≡ at_end) × EndsIn (limit_of old.place) (Whole g.line) old new)
    ⊎ ((g.kind ≡ TooLong) × EndsIn (limit_of old.place) (Short g.line) old new)
HeadFails at_end errors.ReadFault old new =
    EndsIn (taken new.place) (Short new.place.last) old new × (new.place.ended ≡ false) × Rose
    old.faults new.faults
HeadFails at_end errors.OutOfMemory old new = Unit {0}

-- the answer to a call for a token of the header: its line
abbrev pub HeadToken : FaultKind → Result ℕ ReadError → Stand → Stand → Type 0
HeadToken at_end (Ok line) old new = Heads line old new
HeadToken at_end (Err failed) old new = HeadFails at_end failed old new

-- no token came, or it is at fault
abbrev pub TokenFails : (List ℕ → Verdict) → FaultKind → ReadError → Stand → Stand → Type 0
TokenFails judge at_end (errors.Grammar g) old new =
    HeadFails at_end (errors.Grammar g) old new
    ⊎ ((judge new.place.token ≡ Bad g.kind) × Heads g.line old new)
TokenFails judge at_end errors.ReadFault old new = HeadFails at_end errors.ReadFault old new
TokenFails judge at_end errors.OutOfMemory old new = Unit {0}

-- a word that has to stand here
abbrev pub word_verdict : List ℕ → FaultKind → List ℕ → Verdict
word_verdict word wrong w = expect (same_word w word) wrong

-- the word came
pub record HasWord (word : List ℕ) (old new : Stand) : Type 0 where
  pub line : ℕ
  pub heads : Heads line old new
  pub is : same_word new.place.token word ≡ true

-- a count within the limit came
pub record HasCount (n limit : ℕ) (old new : Stand) : Type 0 where
  pub line : ℕ
  pub heads : Heads line old new
  pub is : is_count new.place.token ≡ true
  pub value_is : n ≡ value new.place.token
  pub within : n ≤ limit

-- the answer to a call for a word of the header
abbrev pub WordToken : List ℕ → FaultKind → Result (Unit {0}) ReadError → Stand → Stand → Type 0
WordToken word wrong (Ok done) old new = HasWord word old new
WordToken word wrong (Err failed) old new =
    TokenFails (word_verdict word wrong) wrong failed old new

-- the answer to a call for a count of the header
abbrev pub CountToken : ℕ → Result ℕ ReadError → Stand → Stand → Type 0
CountToken limit (Ok n) old new = HasCount n limit old new
CountToken limit (Err failed) old new = TokenFails (count_verdict limit) BadHeader failed old new
