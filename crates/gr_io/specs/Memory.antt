-- sources and sinks over memory, whose calls fail by plan
use Rattle.std.specs.Prelude.{◌≡◌, ◌⊎◌, ◌+◌, ◌-◌, ◌^◌, ◌++◌, ℕ, List, Bool, true, false, take, drop, min, nat_eq}
use Rattle.std.specs.List.{list_any}
use Rattle.gr_io.specs.declared.sources.SourceError.{SourceError}
use Rattle.gr_io.specs.declared.sources.SourceError.TheVariants as read
use Rattle.gr_io.specs.declared.sinks.SinkError.{SinkError}
use Rattle.gr_io.specs.declared.sinks.SinkError.TheVariants as write

-- a counter of 64 bits after one more: it stays at its last value
abbrev pub counted : ℕ → ℕ
counted count = min (count + 1) (2 ^ 64 - 1)

-- the numbers, from 1, of the calls that fail, how many calls were made, and how many failed
pub record Plan : Type 0 where
  pub fail : List ℕ
  pub calls : ℕ
  pub faults : ℕ

-- nothing was called yet
abbrev pub planned : List ℕ → Plan
planned fail = record { fail = fail; calls = 0; faults = 0 }

-- the next call is one of those that fail
abbrev pub fails_next : Plan → Bool
fails_next p = list_any (λ call. nat_eq call (counted p.calls)) p.fail

-- a call was made and went well
abbrev pub after_call : Plan → Plan
after_call p = record { fail = p.fail; calls = counted p.calls; faults = p.faults }

-- a call was made and failed
abbrev pub after_fault : Plan → Plan
after_fault p = record { fail = p.fail; calls = counted p.calls; faults = counted p.faults }

-- the bytes that a text has left, and how many were taken
pub record TextLeft : Type 0 where
  pub left : List ℕ
  pub taken : ℕ

-- the bytes that a source in memory has left, how many were taken, how many it gives in one call at
-- most, and its plan
pub record MemLeft : Type 0 where
  pub left : List ℕ
  pub taken : ℕ
  pub chunk : ℕ
  pub plan : Plan

-- the bytes that a sink in memory holds, how many bytes a failing call keeps at most, and its plan
pub record MemHeld : Type 0 where
  pub text : List ℕ
  pub keep : ℕ
  pub plan : Plan

-- a source in memory gave its next n bytes, and this call was not to fail
pub record Reads (n : ℕ) (buffer : List ℕ) (old new : MemLeft) : Type 0 where
  pub given : take n buffer ≡ take n old.left
  pub left : new.left ≡ drop n old.left
  pub taken : new.taken ≡ old.taken + n
  pub chunk : new.chunk ≡ old.chunk
  pub plan : new.plan ≡ after_call old.plan
  pub lawful : fails_next old.plan ≡ false

-- a call that was to fail gave nothing; no call asks for memory
abbrev pub ReadFails : SourceError → MemLeft → MemLeft → Type 0
ReadFails read.Fault old new = (fails_next old.plan ≡ true)
    × (new ≡ record old { plan = after_fault old.plan })
ReadFails read.OutOfMemory old new = ⊥

-- a sink in memory took the whole piece, and this call was not to fail
pub record WritesAll (piece : List ℕ) (old new : MemHeld) : Type 0 where
  pub text : new.text ≡ old.text ++ piece
  pub keep : new.keep ≡ old.keep
  pub plan : new.plan ≡ after_call old.plan
  pub lawful : fails_next old.plan ≡ false

-- a call that was to fail kept the front of the piece, or none of it for want of memory
pub record KeepsFront (piece : List ℕ) (old new : MemHeld) : Type 0 where
  pub text : (new.text ≡ old.text ++ take old.keep piece) ⊎ (new.text ≡ old.text)
  pub keep : new.keep ≡ old.keep
  pub plan : new.plan ≡ after_fault old.plan
  pub due : fails_next old.plan ≡ true

-- a fault comes by plan, and want of memory changes nothing
abbrev pub WriteFails : SinkError → List ℕ → MemHeld → MemHeld → Type 0
WriteFails write.Fault piece old new = KeepsFront piece old new
WriteFails write.OutOfMemory piece old new = new ≡ old
