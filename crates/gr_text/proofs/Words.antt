-- the marks of words
use Rattle.std.proofs.Common.{◌≡◌, ◌∙◌, ℕ, suc, ◌+◌, Bool, false, true, ◌&&◌, List, [], ◌∷◌, ◌++◌, length, refl, arith, append_assoc}
use Rattle.std.proofs.lemmas.List.{append-nil, length-append}
use Rattle.gr_text.specs.Tokens.{is_space, is_line_feed, Mark, Word, Break, Spot, marks}

-- a place in a text
abbrev pub spot : ℕ → ℕ → Bool → List ℕ → Spot
spot line last first word = record { line = line; last = last; first = first; word = word }

-- the marks of a text, where more bytes may be looked at than it has
abbrev pub all_marks : ℕ → Spot → List ℕ → List Mark
all_marks more s text = marks s (length text + suc more) text

-- no byte is a blank
abbrev pub HasNoBlank : List ℕ → Type 0
HasNoBlank [] = Unit {0}
HasNoBlank (b ∷ bs) = (is_space b ≡ false) × (is_line_feed b ≡ false) × HasNoBlank bs

-- a word has a byte, and no blank
abbrev pub IsWord : List ℕ → Type 0
IsWord [] = ⊥
IsWord (b ∷ bs) = HasNoBlank (b ∷ bs)

-- bytes of a word that was begun
letters : (w text word : List ℕ) (line room : ℕ) (first : Bool) → HasNoBlank w →
    marks (spot line line first word) (length w + room) (w ++ text)
    ≡ marks (spot line line first (word ++ w)) room text
letters [] text word line room first plain =
    let none : word ++ [] ≡ word = append-nil word in
    let same : 0 + room ≡ room = omega arith in
    rw (same, none) refl
letters (b ∷ w) text word line room first plain =
    let gap = plain.0 in
    let feed = plain.1 in
    let room' : suc (length w) + room ≡ suc (length w + room) = omega arith in
    rw (room', feed, gap) (letters w text (word ++ b ∷ []) line room first plain.2
    ∙ rw (append_assoc word (b ∷ []) w) refl)

-- a word from its first byte on
from_first : (b : ℕ) (w text : List ℕ) (line last room : ℕ) (first : Bool) → HasNoBlank (b ∷ w) →
    marks (spot line last first []) (length (b ∷ w) + room) ((b ∷ w) ++ text)
    ≡ marks (spot line line first (b ∷ w)) room text
from_first b w text line last room first plain =
    let gap = plain.0 in
    let feed = plain.1 in
    let room' : suc (length w) + room ≡ suc (length w + room) = omega arith in
    rw (room', feed, gap) (letters w text (b ∷ []) line room first plain.2)

room_for : (w text : List ℕ) (b more : ℕ) →
    length (w ++ b ∷ text) + suc more ≡ length w + suc (length text + suc more)
room_for w text b more = omega (arith, length-append w (b ∷ text))

-- a word and a space
pub word_space : (more : ℕ) (w text : List ℕ) (line last : ℕ) (first : Bool) → IsWord w →
    all_marks more (spot line last first []) (w ++ 32 ∷ text)
    ≡ Word line first w ∷ all_marks more (spot line line (first && false) []) text
word_space more [] text line last first word = absurd word
word_space more (b ∷ w) text line last first word =
    rw (room_for (b ∷ w) text 32 more)
    (from_first b w (32 ∷ text) line last (suc (length text + suc more)) first word)

-- a word and a line's end
pub word_feed : (more : ℕ) (w text : List ℕ) (line last : ℕ) (first : Bool) → IsWord w →
    all_marks more (spot line last first []) (w ++ 10 ∷ text)
    ≡ Word line first w ∷ Break line ∷ all_marks more (spot (line + 1) line true []) text
word_feed more [] text line last first word = absurd word
word_feed more (b ∷ w) text line last first word =
    rw (room_for (b ∷ w) text 10 more)
    (from_first b w (10 ∷ text) line last (suc (length text + suc more)) first word)
