-- the tokens of a text, line by line
use Rattle.std.specs.Prelude.{ℕ, zero, suc, ◌+◌, Bool, true, false, ◌||◌, ◌&&◌, nat_eq, if◌then◌else◌, List, [], ◌∷◌, ◌++◌}

-- space, tab and carriage return
abbrev pub is_space : ℕ → Bool
is_space b = nat_eq b 32 || nat_eq b 9 || nat_eq b 13

-- the byte that ends a line
abbrev pub is_line_feed : ℕ → Bool
is_line_feed b = nat_eq b 10

-- a byte of no token
abbrev pub is_blank : ℕ → Bool
is_blank b = is_space b || is_line_feed b

-- what a text shows: a token with its line and whether it is the line's first; the end of a line;
-- and at last the text's end with its line, or that the limit on bytes cuts the text, with the line
-- of the last byte within
pub data Mark : Type 0 where
  Word : ℕ → Bool → List ℕ → Mark
  Break : ℕ → Mark
  Stop : ℕ → Mark
  Cut : ℕ → Mark

-- a spot in a text: the line of the next byte and of the last one, whether a token that begins here
-- would be its line's first, and the bytes of the token that was begun, if any
pub record Spot : Type 0 where
  pub line : ℕ
  pub last : ℕ
  pub first : Bool
  pub word : List ℕ

-- no token was begun
abbrev pub is_empty : List ℕ → Bool
is_empty [] = true
is_empty (b ∷ bs) = false

-- the token that was begun, if any, ends
abbrev pub ended : ℕ → Bool → List ℕ → List Mark
ended line first [] = []
ended line first (b ∷ bs) = Word line first (b ∷ bs) ∷ []

-- the mark that a blank or the text's end makes at a spot
abbrev pub ended_at : Spot → List Mark
ended_at s = ended s.line s.first s.word

-- the marks that a byte makes known: a token counts once the blank behind it was read
abbrev pub made_known : Spot → ℕ → List Mark
made_known s b =
    if is_line_feed b then ended_at s ++ Break s.line ∷ [] else
    if is_space b then ended_at s else []

-- the spot after a byte
abbrev pub beyond : Spot → ℕ → Spot
beyond s b =
    if is_line_feed b
    then record { line = s.line + 1; last = s.line; first = true; word = [] }
    else if is_space b
    then record { line = s.line; last = s.line; first = s.first && is_empty s.word; word = [] }
    else record { line = s.line; last = s.line; first = s.first; word = s.word ++ b ∷ [] }

-- the marks of a text from a spot on, where so many bytes may be looked at
abbrev pub marks : Spot → ℕ → List ℕ → List Mark
marks s zero text = Cut s.last ∷ []
marks s (suc room) [] = ended_at s ++ Stop s.line ∷ []
marks s (suc room) (b ∷ text) = made_known s b ++ marks (beyond s b) room text

-- the spot at a text's front
abbrev pub front : Spot
front = record { line = 1; last = 1; first = true; word = [] }

-- the marks of a whole text under a limit on bytes
abbrev pub marks_of : ℕ → List ℕ → List Mark
marks_of limit text = marks front limit text

-- the marks from the next line's end on, where the tokens before are passed
abbrev pub from_line_end : List Mark → List Mark
from_line_end [] = []
from_line_end (Word l f w ∷ ms) = from_line_end ms
from_line_end (m ∷ ms) = m ∷ ms
