-- where a scanner stands in its text, and what its source shows
use Rattle.std.specs.Prelude.{◌≡◌, ◌≤◌, ◌<◌, ◌+◌, ℕ, false, List, [], Option, Result, IfErr}
use Rattle.gr_io.specs.Pieces.{Rose}
use Rattle.gr_text.specs.Tokens.{Spot}
use Rattle.gr_text.specs.Places.{Place, Filled, Takes, taken}
use Rattle.gr_text.specs.Scans.{Fails, IsAnswer, Keeps}
use Rattle.gr_text.specs.declared.scanners.ScanError.{ScanError}
use Rattle.gr_text.specs.declared.scanners.ScanError.TheVariants as errors

-- the scanner's place; and of its source what is left, where that is told, how many bytes were taken,
-- and how many reads failed
pub record Stand : Type 0 where
  pub place : Place
  pub left : Option (List ℕ)
  pub count : ℕ
  pub faults : ℕ

-- the stand at a place over a source, by what the source means
abbrev pub stand : {S : Type 0} → (S → Option (List ℕ)) → (S → ℕ) → (S → ℕ) → Place → S → Stand
stand left count faults place source = record {
  place = place;
  left = left source;
  count = count source;
  faults = faults source;
}

-- reading went on: the limit stays, what was taken came off the source, which counted it, and no fault
-- is forgotten
pub record Goes (old new : Stand) : Type 0 where
  pub keeps : Keeps old.place new.place
  pub takes : Takes old.place old.left new.place new.left
  pub counts : new.count + taken old.place ≡ old.count + taken new.place
  pub faults : old.faults ≤ new.faults

-- where the answer is a failed read, the source counted it
abbrev pub Rises : {T : Type 0} → Result T ScanError → ℕ → ℕ → Type 0
Rises result old new = IfErr result (λ e. e ≡ errors.ReadFault → Rose old new)

-- how a call ends that passes bytes: reading went on; why it failed, where it did; and no read failed where
-- what was asked was answered
pub record Asked {T : Type 0} (s : Spot) (result : Result T ScanError) (old new : Stand) : Type 0 where
  pub goes : Goes old new
  pub err : IfErr result (λ e. Fails s e old.place old.left new.place new.left)
  pub fault : Rises result old.faults new.faults
  pub calm : IsAnswer result → new.faults ≡ old.faults

-- where nothing was ahead, and the source had not given its end, more was taken, or the end met
pub record Refilled (old new : Stand) : Type 0 where
  pub none : old.place.ahead ≡ []
  pub open_ : old.place.ended ≡ false
  pub room : 0 < old.place.spare
  pub size : ℕ
  pub filled : Filled size old.place old.left new.place new.left
  pub counts : new.count ≡ old.count + size
  pub calm : new.faults ≡ old.faults

-- why nothing was taken: no more may be, behind the line of the last byte; a read failed, which the source
-- counted; or memory was wanting
abbrev pub Refuses : ScanError → Stand → Stand → Type 0
Refuses (errors.TooLong line) old new =
    (line ≡ old.place.last) × (old.place.spare ≡ 0) × (new.faults ≡ old.faults)
Refuses errors.ReadFault old new = Rose old.faults new.faults
Refuses errors.OutOfMemory old new = Unit {0}

-- where nothing was ahead, and the source had not given its end, nothing was taken
pub record Refused (e : ScanError) (old new : Stand) : Type 0 where
  pub none : old.place.ahead ≡ []
  pub open_ : old.place.ended ≡ false
  pub place : new.place ≡ old.place
  pub left : new.left ≡ old.left
  pub counts : new.count ≡ old.count
  pub grows : old.faults ≤ new.faults
  pub why : Refuses e old new
