-- what the words behind a command's name mean
use Rattle.std.specs.Prelude.{ℕ, Bool, false, List, [], Option, Some, None, codes, unwrap_or}
use Rattle.std.specs.Str.{bytes_eq}
use Rattle.std.specs.Str.Parse.{digits_value, without_leading_plus}
use Rattle.clap.specs.Words.{Row, Text, first_of, one_of, matches_of}
use Rattle.gr_words.specs.Commands.{solve_app, check_app, large_app}

-- the text of an argument, and the empty one where it has none
abbrev pub text_of : Text → List Row → Text
text_of id rows = unwrap_or (first_of id rows) []

-- the number that a text writes, and 0 where there is none
abbrev pub number_of : Option Text → ℕ
number_of None = 0
number_of (Some text) = digits_value 10 (without_leading_plus text)

-- whether an option without a value is given
abbrev pub is_given : Option Text → Bool
is_given None = false
is_given (Some text) = bytes_eq text (codes "true")

-- the files, and the options of a run
pub record Solving : Type 0 where
  pub cnf : Text
  pub log : Text
  pub reducers : ℕ
  pub conflicts : ℕ
  pub capacity : ℕ
  pub offer : ℕ
  pub keep_all : Bool

-- those that the arguments found give
abbrev pub solving_in : List Row → Solving
solving_in rows = record {
  cnf = text_of (codes "cnf") rows;
  log = text_of (codes "log") rows;
  reducers = number_of (one_of (codes "reducers") rows);
  conflicts = number_of (one_of (codes "conflicts") rows);
  capacity = number_of (one_of (codes "capacity") rows);
  offer = number_of (one_of (codes "offer") rows);
  keep_all = is_given (first_of (codes "keep-all") rows);
}

-- those that the words behind `solve` give
abbrev pub solving : List Text → Solving
solving words = solving_in (matches_of solve_app words)

-- the files
pub record Checking : Type 0 where
  pub cnf : Text
  pub log : Text

-- those that the arguments found give
abbrev pub checking_in : List Row → Checking
checking_in rows = record { cnf = text_of (codes "cnf") rows; log = text_of (codes "log") rows }

-- those that the words behind `check` give
abbrev pub checking : List Text → Checking
checking words = checking_in (matches_of check_app words)

-- the kind of formula, by its name, and its number
pub record Making : Type 0 where
  pub kind : Text
  pub n : ℕ

-- those that the arguments found give
abbrev pub making_in : List Row → Making
making_in rows = record { kind = text_of (codes "kind") rows; n = number_of (one_of (codes "n") rows) }

-- those that the words behind `large` give
abbrev pub making : List Text → Making
making words = making_in (matches_of large_app words)
