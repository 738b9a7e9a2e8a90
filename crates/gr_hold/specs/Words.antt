-- holders as the bits of one word for each id
use Rattle.std.specs.Prelude.{◌≡◌, ℕ, ◌+◌, ◌<◌, zero, suc, Bool, List, map, flat_map, filter, nat_eq, if◌then◌else◌}
use Rattle.std.specs.Prelude.{Option, Some, None, All}
use Rattle.std.specs.Int.{bit_at}
use Rattle.std.specs.Map.{lookup, values_of}
use Rattle.std.specs.FinSet as set
use Rattle.gr_hold.specs.declared.holds.Holder.{Holder}
use Rattle.gr_hold.specs.Holding.{Holding, all_holders, number_of}

-- the word has this bit, and each other bit as before
abbrev pub IsWritten : ℕ → ℕ → ℕ → ℕ → Type 0
IsWritten old new at bit = (i : ℕ) → i < 11 → bit_at new i ≡ (if nat_eq i at then bit else bit_at old i)

-- how many of the lowest bits are set
abbrev pub bits_below : ℕ → ℕ → ℕ
bits_below word zero = 0
bits_below word (suc n) = bits_below word n + bit_at word n

-- an id without a word has no holder
abbrev pub word_of : Option ℕ → ℕ
word_of None = 0
word_of (Some word) = word

-- whether the holder's bit is set in the word of the id
abbrev pub is_held : List (ℕ × ℕ) → ℕ × Holder → Bool
is_held words p = nat_eq (bit_at (word_of (lookup (nat_eq p.0) words)) (number_of p.1)) 1

-- each id that has a word, with each holder
abbrev pub candidates : List (ℕ × ℕ) → List (ℕ × Holder)
candidates words = flat_map (λ e. map (λ by. (e.0, by)) all_holders) words

-- the pairs whose bits are set
abbrev pub held : List (ℕ × ℕ) → Holding
held words = set.from_list (filter (is_held words) (candidates words))

-- no id has a word without holders
abbrev pub AreHeld : List (ℕ × ℕ) → Type 0
AreHeld words = All (λ word. 0 < word) (values_of words)

-- the id has this word, and each other id the word that it had
abbrev pub IsPut : List (ℕ × ℕ) → List (ℕ × ℕ) → ℕ → ℕ → Type 0
IsPut old new id word =
    (q : ℕ) → word_of (lookup (nat_eq q) new) ≡ (if nat_eq id q then word else word_of (lookup (nat_eq q) old))
