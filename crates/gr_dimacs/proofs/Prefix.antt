-- what the first bytes of a text spell, the whole text spells
use Rattle.std.proofs.Common.{◌≡◌, ℕ, zero, suc, ◌+◌, ◌≤◌, ◌<◌, Bool, true, false, ◌&&◌, ◌||◌, List, [], ◌∷◌, ◌++◌, length, map, refl, sym, ap, arith, if◌then◌else◌, ◌⊎◌, inl, inr}
use Rattle.std.proofs.lemmas.List.{append_assoc, map-append}
use Rattle.gr_logic.specs.Formulas.{Cnf}
use Rattle.gr_text.specs.Tokens.{Mark, Word, Break, Stop, Cut, Spot, marks, made_known, beyond, ended, is_line_feed, is_space, front}
use Rattle.gr_dimacs.specs.Numbers.{begins}
use Rattle.gr_dimacs.specs.Tokens.{Token, Ending, Short, outside, ending, room_for}
use Rattle.gr_dimacs.specs.Grammar.{EndsFormula, SpellsWords, SpellsWithin, Spells, word_of}

-- words and line ends
abbrev pub ArePlain : List Mark → Type 0
ArePlain [] = Unit {0}
ArePlain (Word l f w ∷ ms) = ArePlain ms
ArePlain (Break l ∷ ms) = ArePlain ms
ArePlain (Stop l ∷ ms) = ⊥
ArePlain (Cut l ∷ ms) = ⊥

plain-append : (a b : List Mark) → ArePlain a → ArePlain b → ArePlain (a ++ b)
plain-append [] b p q = q
plain-append (Word l f w ∷ a) b p q = plain-append a b p q
plain-append (Break l ∷ a) b p q = plain-append a b p q
plain-append (Stop l ∷ a) b p q = absurd p
plain-append (Cut l ∷ a) b p q = absurd p

ended-plain : (line : ℕ) (first : Bool) (w : List ℕ) → ArePlain (ended line first w)
ended-plain line first [] = tt
ended-plain line first (b ∷ w) = tt

plain-if : (b : Bool) (x y : List Mark) → ArePlain x → ArePlain y → ArePlain (if b then x else y)
plain-if true x y p q = p
plain-if false x y p q = q

known-plain : (s : Spot) (b : ℕ) → ArePlain (made_known s b)
known-plain s b =
    let e = ended-plain s.line s.first s.word in
    plain-if (is_line_feed b) _ _
    (plain-append (ended s.line s.first s.word) (Break s.line ∷ []) e tt)
    (plain-if (is_space b) _ _ e tt)

-- the marks end early, and the whole text has more
pub record EndsEarly (ms whole : List Mark) : Type 0 where
  pub early : List Mark
  pub line : ℕ
  pub more : List Mark
  pub plain : ArePlain early
  pub here : ms ≡ early ++ Cut line ∷ []
  pub there : whole ≡ early ++ more

pub cut-or-whole : (text : List ℕ) (s : Spot) (room big : ℕ) → room ≤ big →
    (marks s room text ≡ marks s big text) ⊎ EndsEarly (marks s room text) (marks s big text)
cut-or-whole text s zero big h =
    inr (record {
      early = [];
      line = s.last;
      more = marks s big text;
      plain = tt;
      here =
          refl;
      there = refl;
    })
cut-or-whole text s (suc room) zero h = absurd (omega arith)
cut-or-whole [] s (suc room) (suc big) h = inl refl
cut-or-whole (b ∷ text) s (suc room) (suc big) h =
    let m = made_known s b in
    elim (cut-or-whole text (beyond s b) room big (omega arith)) [
      | inl e ↦ inl (ap (λ ms. m ++ ms) e)
      | inr c ↦ inr (record {
        early = m ++ c.early;
        line = c.line;
        more = c.more;
        plain = plain-append m c.early (known-plain s b) c.plain;
        here = rw c.here (sym (append_assoc m c.early (Cut c.line ∷ [])));
        there = rw c.there (sym (append_assoc m c.early c.more));
      })
    ]

-- with room for the whole text more room changes nothing
pub room-enough : (text : List ℕ) (s : Spot) (room big : ℕ) → length text < room →
    length text < big → marks s room text ≡ marks s big text
room-enough text s zero big h g = absurd (omega arith)
room-enough text s (suc room) zero h g = absurd (omega arith)
room-enough [] s (suc room) (suc big) h g = refl
room-enough (b ∷ text) s (suc room) (suc big) h g =
    ap (λ ms. made_known s b ++ ms)
    (room-enough text (beyond s b) room big (omega arith) (omega arith))

early-ending : (ms : List Mark) (line : ℕ) → ArePlain ms → ending (ms ++ Cut line ∷ []) ≡ Short line
early-ending [] line p = refl
early-ending (Word l f w ∷ ms) line p = early-ending ms line p
early-ending (Break l ∷ ms) line p = early-ending ms line p
early-ending (Stop l ∷ ms) line p = absurd p
early-ending (Cut l ∷ ms) line p = absurd p

-- the tokens of the front are a front of the tokens
pub record Begins (front_ whole : List Token) : Type 0 where
  pub later : List Token
  pub is : whole ≡ front_ ++ later

begins-if : (b : Bool) (t : Token) (a c d e : List Token) → Begins a c → Begins d e →
    Begins (if b then a else t ∷ d) (if b then c else t ∷ e)
begins-if true t a c d e x y = x
begins-if false t a c d e x y = record { later = y.later; is = ap (λ ts. t ∷ ts) y.is }

tokens-begin : (ms more : List Mark) (line : ℕ) (comment : Bool) → ArePlain ms →
    Begins (outside comment (ms ++ Cut line ∷ [])) (outside comment (ms ++ more))
tokens-begin [] more line comment p = record { later = outside comment more; is = refl }
tokens-begin (Word l f w ∷ ms) more line comment p =
    begins-if (comment || (f && begins 99 w)) (record { line = l; word = w }) _ _ _ _
    (tokens-begin ms more line true p) (tokens-begin ms more line false p)
tokens-begin (Break l ∷ ms) more line comment p = tokens-begin ms more line false p
tokens-begin (Stop l ∷ ms) more line comment p = absurd p
tokens-begin (Cut l ∷ ms) more line comment p = absurd p

longer-end : (rest later : List (List ℕ)) (line : ℕ) (end : Ending) →
    EndsFormula rest (Short line) → EndsFormula (rest ++ later) end
longer-end [] later line end c = absurd c
longer-end (w ∷ rest) later line end c = c

-- a formula that ends before its text's end is spelled by what begins so
longer : (words later : List (List ℕ)) (line : ℕ) (end : Ending) (f : Cnf) →
    SpellsWords words (Short line) f → SpellsWords (words ++ later) end f
longer words later line end f s = record {
  vars = s.vars;
  count = s.count;
  body = s.body;
  rest = s.rest ++ later;
  split = rw (s.split, append_assoc s.body s.rest later) refl;
  is_vars = s.is_vars;
  vars_value = s.vars_value;
  is_clauses = s.is_clauses;
  count_value = s.count_value;
  clauses = s.clauses;
  within = s.within;
  closed = longer-end s.rest later line end s.closed;
}

spells-more : (ms whole : List Mark) (f : Cnf) → EndsEarly ms whole →
    SpellsWords (map word_of (outside false ms)) (ending ms) f →
    SpellsWords (map word_of (outside false whole)) (ending whole) f
spells-more ms whole f c s =
    let b = tokens-begin c.early c.more c.line false c.plain in
    let s' = rw (c.here, early-ending c.early c.line c.plain) at s in
    let l = longer (map word_of (outside false (c.early ++ Cut c.line ∷ []))) (map word_of b.later)
    c.line (ending whole) f s' in
    rw c.there (rw (b.is, map-append word_of (outside false (c.early ++ Cut c.line ∷ [])) b.later)
    (rw (sym c.there) l))

spells-from : (ms whole : List Mark) (f : Cnf) → (ms ≡ whole) ⊎ EndsEarly ms whole →
    SpellsWords (map word_of (outside false ms)) (ending ms) f →
    SpellsWords (map word_of (outside false whole)) (ending whole) f
spells-from ms whole f (inl e) s = rw (sym e) s
spells-from ms whole f (inr c) s = spells-more ms whole f c s

-- what so many bytes spell, more bytes spell
pub spells-within-more : (text : List ℕ) (room big : ℕ) (f : Cnf) → room ≤ big →
    SpellsWithin room text f → SpellsWithin big text f
spells-within-more text room big f h s = spells-from _ _ f (cut-or-whole text front room big h) s

-- what the first bytes spell, the whole text spells
pub within-spells : (text : List ℕ) (room : ℕ) (f : Cnf) → SpellsWithin room text f → Spells text f
within-spells text room f s =
    let more = spells-within-more text room (room + room_for text) f (omega arith) s in
    let same : marks front (room + room_for text) text ≡ marks front (room_for text) text =
    room-enough text front (room + room_for text) (room_for text) (omega arith) (omega arith) in
    rw (sym same) more

-- where there is room for all of it, what the whole text spells is spelled within
pub spells-room : (text : List ℕ) (room : ℕ) (f : Cnf) → length text < room → Spells text f →
    SpellsWithin room text f
spells-room text room f h s =
    let same : marks front room text ≡ marks front (room_for text) text =
    room-enough text front room (room_for text) h (omega arith) in
    rw same s
