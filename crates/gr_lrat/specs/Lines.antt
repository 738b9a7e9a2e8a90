-- what a line of a proof log spells
use Rattle.std.specs.Prelude.{ℕ, ◌+◌, Bool, true, false, ◌&&◌, nat_eq, if◌then◌else◌, List, [], ◌∷◌, ◌++◌, length}
use Rattle.std.specs.Option.{option_map_or}
use Rattle.gr_logic.specs.Literals.{Literal}
use Rattle.gr_logic.specs.declared.lines.Line.{Line}
use Rattle.gr_logic.specs.declared.lines.Line.TheVariants.{Add, Delete}
use Rattle.gr_text.specs.Tokens.{Mark, Word, Break, Stop, Cut, marks_of}
use Rattle.gr_lrat.specs.Numerals.{is_count, is_negative, id_of, literal_said}

-- what a line is: nothing, where it is blank or a comment; a line of the log; misspelt; or well
-- spelt but
-- for a negative hint
pub data Spelling : Type 0 where
  Nothing : Spelling
  Spelled : Line → Spelling
  Misspelt : Spelling
  HasNegativeHint : Spelling

-- the list has nothing in it
abbrev pub is_nil : {X : Type 0} → List X → Bool
is_nil [] = true
is_nil (x ∷ xs) = false

-- the token is this one byte
abbrev pub is_byte : ℕ → List ℕ → Bool
is_byte c [] = false
is_byte c (b ∷ bs) = nat_eq b c && is_nil bs

-- the token begins with the letter c
abbrev pub begins_comment : List ℕ → Bool
begins_comment [] = false
begins_comment (b ∷ bs) = nat_eq b 99

-- what a list of ids or hints is, up to its closing 0: ids, or numbers of which one is negative, or
-- neither
pub data IdList : Type 0 where
  AllIds : List ℕ → IdList
  SomeNegative : IdList
  NoList : IdList

-- the list was closed: it is whole where no token follows
abbrev pub closed_list : Bool → List ℕ → List (List ℕ) → IdList
closed_list negative ids [] = if negative then SomeNegative else AllIds ids
closed_list negative ids (w ∷ ws) = NoList

-- what the list is whose tokens to come are these, behind these ids, and whether a negative number
-- was
-- among what came before
abbrev pub ids_from : Bool → List ℕ → List (List ℕ) → IdList
ids_from negative ids [] = NoList
ids_from negative ids (w ∷ ws) =
    if is_byte 48 w then closed_list negative ids ws else
    option_map_or (λ id. ids_from negative (ids ++ id ∷ []) ws) (id_of w)
    (if is_negative w then ids_from true ids ws else NoList)

-- an addition with this list of hints
abbrev pub addition_with : ℕ → List Literal → IdList → Spelling
addition_with id clause (AllIds hints) = Spelled (Add id clause hints)
addition_with id clause SomeNegative = HasNegativeHint
addition_with id clause NoList = Misspelt

-- a deletion of this list of ids; its own id is not kept
abbrev pub deletion_with : IdList → Spelling
deletion_with (AllIds ids) = Spelled (Delete 0 ids)
deletion_with SomeNegative = Misspelt
deletion_with NoList = Misspelt

-- an addition of this id, whose tokens to come are these, behind these literals: literals up to a
-- 0, then
-- the hints
abbrev pub addition_from : ℕ → List Literal → List (List ℕ) → Spelling
addition_from id clause [] = Misspelt
addition_from id clause (w ∷ ws) =
    if is_byte 48 w then addition_with id clause (ids_from false [] ws) else
    option_map_or (λ l. addition_from id (clause ++ l ∷ []) ws) (literal_said w) Misspelt

-- an addition with these tokens
abbrev pub addition_of : List ℕ → List (List ℕ) → Spelling
addition_of w ws = option_map_or (λ id. addition_from id [] ws) (id_of w) Misspelt

-- a deletion with these tokens beside its letter
abbrev pub deletion_of : List ℕ → List (List ℕ) → Spelling
deletion_of w ws = if is_count w then deletion_with (ids_from false [] ws) else Misspelt

-- a line that is no comment: a deletion where the second token is the letter d
abbrev pub statement_of : List ℕ → List (List ℕ) → Spelling
statement_of w [] = Misspelt
statement_of w (v ∷ vs) = if is_byte 100 v then deletion_of w vs else addition_of w (v ∷ vs)

-- what a line with these tokens spells
abbrev pub spelling : List (List ℕ) → Spelling
spelling [] = Nothing
spelling (w ∷ ws) = if begins_comment w then Nothing else statement_of w ws

-- the tokens before the first line end
abbrev pub line_tokens : List Mark → List (List ℕ)
line_tokens [] = []
line_tokens (Word line first w ∷ ms) = w ∷ line_tokens ms
line_tokens (Break line ∷ ms) = []
line_tokens (Stop line ∷ ms) = []
line_tokens (Cut line ∷ ms) = []

-- what the bytes of a line spell
abbrev pub line_read : List ℕ → Spelling
line_read bytes = spelling (line_tokens (marks_of (length bytes + 1) bytes))
