-- what passes between a source or a sink and its caller
use Rattle.std.specs.Prelude.{◌≡◌, ◌<◌, ◌^◌, ◌-◌, ◌⊎◌, ◌++◌, ℕ, List, [], Option}
use Rattle.std.specs.Option.{option_map}

-- a piece came off the front of what was left, where that is told
abbrev pub ComesOff : List ℕ → Option (List ℕ) → Option (List ℕ) → Type 0
ComesOff piece old new = old ≡ option_map (λ rest. piece ++ rest) new

-- nothing was left, where that is told
abbrev pub IsSpent : Option (List ℕ) → Type 0
IsSpent left = left ≡ option_map (λ _. []) left

-- a piece was added to the end of what was written, where that is told
abbrev pub Gains : List ℕ → Option (List ℕ) → Option (List ℕ) → Type 0
Gains piece old new = new ≡ option_map (λ text. text ++ piece) old

-- of the bytes that were due a front part was added to what was written, and no other byte
pub record GainsPart (due : List ℕ) (old new : Option (List ℕ)) : Type 0 where
  pub gained : List ℕ
  pub left_out : List ℕ
  pub whole : gained ++ left_out ≡ due
  pub sink : Gains gained old new

-- a count rose, or stands at the last value that a counter of 64 bits has
abbrev pub Rose : ℕ → ℕ → Type 0
Rose old new = (old < new) ⊎ (new ≡ 2 ^ 64 - 1)
