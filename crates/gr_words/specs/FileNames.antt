-- the files that a command line names
use Rattle.std.specs.Prelude.{◌≡◌, ◌⊎◌, List, [], ◌∷◌, codes, string_bytes, true, false}
use Rattle.clap.specs.Words.{Text}
use Rattle.gr_words.specs.Meanings.{solving, checking}
use Rattle.gr_words.specs.Calls.{is_lawful}
use Rattle.gr_words.specs.declared.file_names.Files.{Files}

-- a lawful command line with these two file names: `solve` and `check` have them
pub data HasFiles (words : List Text) (cnf log : Text) : Type 0 where
  of-solve : (rest : List Text) → words ≡ codes "solve" ∷ rest → (solving rest).cnf ≡ cnf → (solving rest).log ≡ log
      → HasFiles words cnf log
  of-check : (rest : List Text) → words ≡ codes "check" ∷ rest → (checking rest).cnf ≡ cnf → (checking rest).log ≡ log
      → HasFiles words cnf log

-- no file is named: the words are not lawful, or their command has no files
abbrev pub NamesNone : List Text → Type 0
NamesNone words = (is_lawful words ≡ false) ⊎ ((rest : List Text) × (words ≡ codes "large" ∷ rest))

-- the files are those that the words name, or two empty texts
abbrev pub Names : List Text → Files → Type 0
Names words files =
    ((is_lawful words ≡ true) × HasFiles words (string_bytes files.cnf) (string_bytes files.log))
    ⊎ (NamesNone words × (string_bytes files.cnf ≡ []) × (string_bytes files.log ≡ []))
