-- words that are literals' codes
use Rattle.std.specs.Prelude.{◌<◌}
use Rattle.gr_logic.specs.Literals.{Literal}
use Rattle.gr_logic.specs.Codes.{literal_of, code_of}
use Rattle.gr_logic.specs.declared.words.Word.{Word}

-- the word is a literal's code
abbrev pub IsCode : Word → Type 0
IsCode w = w.bits < 2_000_000

-- the literal of a word
abbrev pub literal_in : Word → Literal
literal_in w = literal_of w.bits

-- the word of a literal
abbrev pub word_of : Literal → Word
word_of l = record { bits = code_of l }

-- the literal is one that the program knows: its variable is at most 1,000,000
abbrev pub IsNumbered : Literal → Type 0
IsNumbered l = l.index < 1_000_000
