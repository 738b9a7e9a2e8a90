-- the tokens outside comments
use Rattle.std.specs.Prelude.{ℕ, ◌+◌, Bool, true, false, ◌&&◌, ◌||◌, if◌then◌else◌, List, [], ◌∷◌, length}
use Rattle.gr_text.specs.Tokens.{Mark, Word, Break, Stop, Cut, marks_of}
use Rattle.gr_dimacs.specs.Numbers.{begins}

-- a token and its line
pub record Token : Type 0 where
  pub line : ℕ
  pub word : List ℕ

-- how the text ends: at its end, or where no more bytes may be looked at
pub data Ending : Type 0 where
  Whole : ℕ → Ending
  Short : ℕ → Ending

-- a line whose first token begins with c is a comment, and has no tokens
abbrev pub outside : Bool → List Mark → List Token
outside comment [] = []
outside comment (Word line first word ∷ ms) =
    if comment || (first && begins 99 word) then outside true ms else record {
      line = line;
      word =
          word;
    } ∷ outside false ms
outside comment (Break line ∷ ms) = outside false ms
outside comment (Stop line ∷ ms) = []
outside comment (Cut line ∷ ms) = []

-- how the marks end
abbrev pub ending : List Mark → Ending
ending [] = Short 1
ending (Word line first word ∷ ms) = ending ms
ending (Break line ∷ ms) = ending ms
ending (Stop line ∷ ms) = Whole line
ending (Cut line ∷ ms) = Short line

-- the tokens of the first so many bytes
abbrev pub tokens_of : ℕ → List ℕ → List Token
tokens_of limit text = outside false (marks_of limit text)

-- how the first so many bytes end
abbrev pub ending_of : ℕ → List ℕ → Ending
ending_of limit text = ending (marks_of limit text)

-- room for the whole text and its end
abbrev pub room_for : List ℕ → ℕ
room_for text = length text + 1
