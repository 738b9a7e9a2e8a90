-- which command lines are lawful, and what they call for
use Rattle.std.specs.Prelude.{◌≡◌, ◌&&◌, ◌≤◌, ◌==◌, ◌%◌, ℕ, Bool, true, false, List, [], ◌∷◌, Option, Some, None, codes, length, nat_le, if◌then◌else◌}
use Rattle.std.specs.Option.{option_map_or}
use Rattle.std.specs.Str.{bytes_eq}
use Rattle.clap.specs.Words.{Text, fault_of}
use Rattle.gr_words.specs.Commands.{app_named, most_reducers}
use Rattle.gr_words.specs.Meanings.{Solving, Making, solving, checking, making}
use Rattle.gr_words.specs.declared.calls.Call.{Call}
use Rattle.gr_words.specs.declared.calls.Call.TheVariants.{Solve, Check, Large}
use Rattle.gr_words.specs.declared.calls.SolveWords.{SolveWords}
use Rattle.gr_words.specs.declared.calls.Kind.{Kind}
use Rattle.gr_words.specs.declared.calls.Kind.TheVariants.{OddRing, Pigeons}

-- the name of a kind of formula
abbrev pub kind_name : Kind → Text
kind_name OddRing = codes "odd_ring"
kind_name Pigeons = codes "pigeons"

-- the number is one of the kind's: an odd ring has an odd number of variables
abbrev pub is_in_range : Kind → ℕ → Bool
is_in_range OddRing n = nat_le 3 n && (nat_le n 999999 && (n % 2 == 1))
is_in_range Pigeons n = nat_le 2 n && nat_le n 50

-- the kind of this name
abbrev pub kind_named : Text → Option Kind
kind_named name =
    if bytes_eq name (codes "odd_ring") then Some OddRing
    else (if bytes_eq name (codes "pigeons") then Some Pigeons else None)

-- such a formula can be made
abbrev pub can_be_made : Making → Bool
can_be_made m = option_map_or (λ kind. is_in_range kind m.n) (kind_named m.kind) false

-- clap finds nothing wrong with the words behind the command's name; and behind `large` such a formula can be made
abbrev pub is_lawful : List Text → Bool
is_lawful [] = false
is_lawful (word ∷ rest) =
    option_map_or (λ app. length (fault_of app rest) == 0) (app_named word) false
    && (if bytes_eq word (codes "large") then can_be_made (making rest) else true)

-- the files and options of a call to decide a formula, as texts and numbers
abbrev pub options_of : SolveWords → Solving
options_of s = record {
  cnf = s.cnf.now;
  log = s.log.now;
  reducers = s.reducers;
  conflicts = s.conflicts;
  capacity = s.capacity;
  offer = s.offer;
  keep_all = s.keep_all;
}

-- the words call for this
abbrev pub Means : List Text → Call → Type 0
Means words (Solve s) =
    (rest : List Text) × (words ≡ codes "solve" ∷ rest) × (options_of s ≡ solving rest)
Means words (Check s) =
    (rest : List Text) × (words ≡ codes "check" ∷ rest)
    × (record { cnf = s.cnf.now; log = s.log.now } ≡ checking rest)
Means words (Large s) =
    (rest : List Text) × (words ≡ codes "large" ∷ rest)
    × (record { kind = kind_name s.kind; n = s.n } ≡ making rest) × (is_in_range s.kind s.n ≡ true)

-- the options of a run are within the program's limits
pub record IsWithinLimits (s : SolveWords) : Type 0 where
  pub reducers : s.reducers ≤ most_reducers
  pub some_conflicts : 1 ≤ s.conflicts
  pub conflicts : s.conflicts ≤ 4_000_000
  pub some_capacity : 1 ≤ s.capacity
  pub capacity : s.capacity ≤ 100_000
  pub low_offer : 2 ≤ s.offer
  pub offer : s.offer ≤ 1_000_000

-- and so are those of a call that has options
abbrev pub HasLimits : Call → Type 0
HasLimits (Solve s) = IsWithinLimits s
HasLimits (Check s) = Unit {0}
HasLimits (Large s) = Unit {0}
