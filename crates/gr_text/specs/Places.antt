-- a scanner's place in its text
use Rattle.std.specs.Prelude.{◌≡◌, ℕ, ◌+◌, ◌-◌, ◌≤◌, Bool, true, false, not, List, [], ◌∷◌, ◌++◌, length, drop, take, Option, nat_eq, if◌then◌else◌}
use Rattle.std.specs.List.{prefix_len}
use Rattle.std.specs.Option.{option_map}
use Rattle.gr_io.specs.Pieces.{ComesOff, IsSpent}
use Rattle.gr_text.specs.Tokens.{is_space, is_blank, is_line_feed, Mark, Spot, marks}

-- where a scanner stands: the bytes of the present token; the bytes ahead, which were taken and not
-- passed; how many bytes were passed, and how many may still be taken; the line of the next byte and
-- of the last one; whether a token would be its line's first; and whether the source gave its end
pub record Place : Type 0 where
  pub token : List ℕ
  pub ahead : List ℕ
  pub passed : ℕ
  pub spare : ℕ
  pub line : ℕ
  pub last : ℕ
  pub first : Bool
  pub ended : Bool

-- the spot there, between two tokens
abbrev pub between : Place → Spot
between p = record { line = p.line; last = p.last; first = p.first; word = [] }

-- the spot there, inside the present token
abbrev pub inside : Place → Spot
inside p = record { line = p.line; last = p.line; first = p.first; word = p.token }

-- the bytes begin with a blank, or there are none
abbrev pub BeginsBlank : List ℕ → Type 0
BeginsBlank [] = Unit {0}
BeginsBlank (b ∷ bs) = is_blank b ≡ true

-- the bytes begin with a byte of a token
abbrev pub BeginsWord : List ℕ → Type 0
BeginsWord [] = ⊥
BeginsWord (b ∷ bs) = is_blank b ≡ false

-- the bytes begin with a line feed
abbrev pub BeginsLineEnd : List ℕ → Type 0
BeginsLineEnd [] = ⊥
BeginsLineEnd (b ∷ bs) = is_line_feed b ≡ true

-- the bytes begin with no space
abbrev pub BeginsPastSpaces : List ℕ → Type 0
BeginsPastSpaces [] = Unit {0}
BeginsPastSpaces (b ∷ bs) = is_space b ≡ false

-- at the front of a text of which so many bytes may be taken
abbrev pub at_start : ℕ → Place
at_start max_bytes = record {
  token = [];
  ahead = [];
  passed = 0;
  spare = max_bytes;
  line = 1;
  last = 1;
  first = true;
  ended = false;
}

-- how many bytes were taken in all
abbrev pub taken : Place → ℕ
taken p = p.passed + length p.ahead

-- how many bytes may be taken in all
abbrev pub limit_of : Place → ℕ
limit_of p = taken p + p.spare

-- the least limit that has room for all that is known: the text's end counts as one byte more
abbrev pub known : Place → ℕ
known p = taken p + (if p.ended then 1 else 0)

-- the text to come, where this is left in the source
abbrev pub text_of : Place → List ℕ → List ℕ
text_of p rest = p.ahead ++ (if p.ended then [] else rest)

-- the marks to come from a spot on, where the source tells its text, under a limit on all bytes
abbrev pub coming_from : Spot → ℕ → Place → Option (List ℕ) → Option (List Mark)
coming_from s limit p left = option_map (λ rest. marks s (limit - p.passed) (text_of p rest)) left

-- the marks to come between two tokens
abbrev pub coming : ℕ → Place → Option (List ℕ) → Option (List Mark)
coming limit p left = coming_from (between p) limit p left

-- n bytes of the text ahead are passed, and no token is kept
abbrev pub passing : ℕ → Place → Place
passing n p = record {
  token = [];
  ahead = drop n p.ahead;
  passed = p.passed + n;
  spare = p.spare;
  line = p.line;
  last = if nat_eq n 0 then p.last else p.line;
  first = p.first;
  ended = p.ended;
}

-- the spaces that come next are passed
abbrev pub past_spaces : Place → Place
past_spaces p = passing (prefix_len is_space p.ahead) p

-- the bytes up to the line's end are passed
abbrev pub past_rest : Place → Place
past_rest p = passing (prefix_len (λ b. not (is_line_feed b)) p.ahead) p

-- the present token grows by the bytes of it that come next
abbrev pub past_word : Place → Place
past_word p =
    let n = prefix_len (λ b. not (is_blank b)) p.ahead in
    record {
      token = p.token ++ take n p.ahead;
      ahead = drop n p.ahead;
      passed = p.passed + n;
      spare = p.spare;
      line = p.line;
      last = p.line;
      first = p.first;
      ended = p.ended;
    }

-- the source gave its end, and nothing is ahead
abbrev pub IsPastEnd : Place → Type 0
IsPastEnd p = (p.ahead ≡ []) × (p.ended ≡ true)

-- the present token is let go, and all else stays
abbrev pub no_token : Place → Place
no_token p = record p { token = [] }

-- the token has ended
abbrev pub past_token : Place → Place
past_token p = record p { first = false; last = p.line }

-- a line's end was passed
abbrev pub past_line : Place → Place
past_line p = record {
  token = [];
  ahead = drop 1 p.ahead;
  passed = p.passed + 1;
  spare = p.spare;
  line = p.line + 1;
  last = p.line;
  first = true;
  ended = p.ended;
}

-- a piece was taken where nothing was ahead; an empty one is the end
abbrev pub with_piece : List ℕ → Place → Place
with_piece piece p =
    record p { ahead = piece; spare = p.spare - length piece; ended = nat_eq (length piece) 0 }

-- n bytes were taken from the source, or its end was met
pub record Filled (n : ℕ) (p : Place) (l : Option (List ℕ)) (q : Place) (r : Option (List ℕ)) :
    Type 0 where
  pub piece : List ℕ
  pub count : length piece ≡ n
  pub within : n ≤ p.spare
  pub place : q ≡ with_piece piece p
  pub left : ComesOff piece l r
  pub end : n ≡ 0 → IsSpent l

-- the bytes that were taken between two places came off the front of what the source had left
pub record Takes (p : Place) (l : Option (List ℕ)) (q : Place) (r : Option (List ℕ)) : Type 0 where
  pub piece : List ℕ
  pub count : taken q ≡ taken p + length piece
  pub left : ComesOff piece l r

-- from one spot to another no mark was passed: the marks to come are the same
pub record Leads (s : Spot) (p : Place) (l : Option (List ℕ)) (t : Spot) (q : Place)
    (r : Option (List ℕ)) : Type 0 where
  pub same : (limit : ℕ) → known q ≤ limit → coming_from s limit p l ≡ coming_from t limit q r
  pub grows : known p ≤ known q
  pub limit : limit_of q ≡ limit_of p
