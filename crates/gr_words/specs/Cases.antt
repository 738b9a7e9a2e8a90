-- the cases of a command line: to decide a formula, to check a proof log, to make a formula, and none of these
use Rattle.std.specs.Prelude.{◌≡◌, ℕ, true, false, List, ◌∷◌, codes}
use Rattle.clap.specs.Words.{Text}
use Rattle.gr_words.specs.Meanings.{Solving, solving, making}
use Rattle.gr_words.specs.Calls.{is_lawful, kind_name}
use Rattle.gr_words.specs.declared.calls.Kind.{Kind}

-- the words call for deciding a formula, with these files and options
pub record IsSolve (options : Solving) (words : List Text) : Type 0 where
  pub lawful : is_lawful words ≡ true
  pub rest : List Text
  pub spelled : words ≡ codes "solve" ∷ rest
  pub means : options ≡ solving rest

-- the words call for checking a proof log against a formula
pub record IsCheck (words : List Text) : Type 0 where
  pub lawful : is_lawful words ≡ true
  pub rest : List Text
  pub spelled : words ≡ codes "check" ∷ rest

-- the words call for making a formula of this kind and size, and deciding it
pub record IsLarge (kind : Kind) (n : ℕ) (words : List Text) : Type 0 where
  pub lawful : is_lawful words ≡ true
  pub rest : List Text
  pub spelled : words ≡ codes "large" ∷ rest
  pub means : record { kind = kind_name kind; n = n } ≡ making rest

-- the words are no lawful command line
abbrev pub IsUnlawful : List Text → Type 0
IsUnlawful words = is_lawful words ≡ false

-- one of these, with what tells it from others of its kind
pub data Case : Type 0 where
  to-solve : Solving → Case
  to-check : Case
  to-make : Kind → ℕ → Case
  to-refuse : Case

-- the words are of this case
abbrev pub IsCase : Case → List Text → Type 0
IsCase (to-solve options) words = IsSolve options words
IsCase to-check words = IsCheck words
IsCase (to-make kind n) words = IsLarge kind n words
IsCase to-refuse words = IsUnlawful words

-- each command line is of a case, and of no other
abbrev pub EachLineIsOneCase : Type 0
EachLineIsOneCase =
    (words : List Text) → ((c : Case) × IsCase c words) × ((c d : Case) → IsCase c words → IsCase d words → c ≡ d)
