-- the canonical text spells its formula
use Rattle.std.proofs.Common.{◌≡◌, ◌∙◌, ℕ, suc, ◌+◌, ◌^◌, ◌≤◌, ◌<◌, Bool, true, false, ◌&&◌, List, [], ◌∷◌, ◌++◌, length, map, refl, ap, arith, nat_eq, nat_le}
use Rattle.std.specs.List.{flat_map, list_all}
use Rattle.std.specs.Fmt.{decimal, signed_decimal}
use Rattle.std.proofs.lemmas.List.{append_assoc, append-nil, map-append}
use Rattle.std.proofs.lemmas.Bool.{leb-true}
use Rattle.std.proofs.lemmas.Grind.{common_steps}
use Rattle.gr_logic.specs.Literals.{Literal, number_of}
use Rattle.gr_logic.specs.Formulas.{Cnf, IsBounded}
use Rattle.gr_text.specs.Tokens.{is_space, is_line_feed}
use Rattle.gr_dimacs.specs.Numbers.{is_digit, is_count, number, begins}
use Rattle.gr_dimacs.specs.Tokens.{outside}
use Rattle.gr_dimacs.specs.Grammar.{Spells, numbers_of, word_of, p_word, cnf_word}
use Rattle.gr_dimacs.specs.Canonical.{canonical_text, clause_text, header_text, literal_text}
use Rattle.gr_dimacs.proofs.Complete.{AllVarsIn, VarsIn, all-vars-in}
use Rattle.gr_text.proofs.Digits.{decimal-is-count, value-decimal}
use Rattle.gr_text.proofs.Words.{HasNoBlank, IsWord, spot}
use Rattle.gr_dimacs.proofs.Digits.{number-literal}
use Rattle.gr_dimacs.proofs.Spaced.{all_marks, ends-whole, marks-feed, marks-space}

-- the words of a text from a spot on, outside comments
abbrev words : ℕ → ℕ → Bool → List ℕ → List (List ℕ)
words line last first text = map word_of (outside false (all_marks (spot line last first []) text))

both-true : (a b : Bool) → (a && b) ≡ true → (a ≡ true) × (b ≡ true)
both-true true b h = (refl, h)
both-true false b h = absurd (cc)

and-false : (a : Bool) → (a && false) ≡ false
and-false true = refl
and-false false = refl

-- a word that begins no comment, and a space
words-space : (w text : List ℕ) (line last : ℕ) (first : Bool) → IsWord w →
    (first && begins 99 w) ≡ false →
    words line last first (w ++ 32 ∷ text) ≡ w ∷ words line line false text
words-space w text line last first word plain =
    rw (marks-space w text line last first word, plain, and-false first) refl

-- a word that begins no comment, and a line's end
words-feed : (w text : List ℕ) (line last : ℕ) (first : Bool) → IsWord w →
    (first && begins 99 w) ≡ false →
    words line last first (w ++ 10 ∷ text) ≡ w ∷ words (line + 1) line true text
words-feed w text line last first word plain =
    rw (marks-feed w text line last first word, plain) refl

-- a digit is no blank
digit-plain : (b : ℕ) → is_digit b ≡ true →
    (is_space b ≡ false) × (is_line_feed b ≡ false) × (nat_eq b 99 ≡ false)
digit-plain b h =
    let bounds = both-true (nat_le 48 b) (nat_le b 57) h in
    let low : 48 ≤ b = leb-true 48 b bounds.0 in
    let high : b ≤ 57 = leb-true b 57 bounds.1 in
    let no_space : nat_eq b 32 ≡ false = grind (arith, common_steps) in
    let no_tab : nat_eq b 9 ≡ false = grind (arith, common_steps) in
    let no_return : nat_eq b 13 ≡ false = grind (arith, common_steps) in
    let no_feed : nat_eq b 10 ≡ false = grind (arith, common_steps) in
    let no_letter : nat_eq b 99 ≡ false = grind (arith, common_steps) in
    (rw (no_space, no_tab, no_return) refl, no_feed, no_letter)

digits-plain : (ds : List ℕ) → list_all is_digit ds ≡ true → HasNoBlank ds
digits-plain [] h = tt
digits-plain (d ∷ ds) h =
    let both = both-true (is_digit d) (list_all is_digit ds) h in
    let plain = digit-plain d both.0 in
    (plain.0, plain.1, digits-plain ds both.1)

-- a word that begins with no c
record IsNumeral (w : List ℕ) : Type 0 where
  word : IsWord w
  plain : begins 99 w ≡ false

count-numeral : (ds : List ℕ) → is_count ds ≡ true → IsNumeral ds
count-numeral [] h = absurd (cc)
count-numeral (d ∷ ds) h =
    let both = both-true (is_digit d) (list_all is_digit ds) h in
    record { word = digits-plain (d ∷ ds) h; plain = (digit-plain d both.0).2 }

minus-numeral : (ds : List ℕ) → is_count ds ≡ true → IsNumeral (45 ∷ ds)
minus-numeral [] h = absurd (cc)
minus-numeral (d ∷ ds) h = record { word = (refl, refl, digits-plain (d ∷ ds) h); plain = refl }

literal-numeral : (positive : Bool) (index : ℕ) → index < 1_000_000 →
    IsNumeral (signed_decimal (number_of (record { index = index; positive = positive })))
literal-numeral true index small =
    count-numeral (decimal (index + 1)) (decimal-is-count (index + 1) (omega arith))
literal-numeral false index small =
    minus-numeral (decimal (suc index)) (decimal-is-count (suc index) (omega arith))

-- a literal's word
abbrev literal_word : Literal → List ℕ
literal_word l = signed_decimal (number_of l)

-- a clause's words
abbrev clause_words : List Literal → List (List ℕ)
clause_words c = map literal_word c ++ (48 ∷ []) ∷ []

plain-first : (first : Bool) (w : List ℕ) → begins 99 w ≡ false → (first && begins 99 w) ≡ false
plain-first first w h = rw h (and-false first)

zero-word : IsNumeral (48 ∷ [])
zero-word = record { word = (refl, refl, tt); plain = refl }

regrouped : (a b c : List ℕ) → ((a ++ 32 ∷ []) ++ b) ++ c ≡ a ++ 32 ∷ (b ++ c)
regrouped a b c = rw (append_assoc (a ++ 32 ∷ []) b c, append_assoc a (32 ∷ []) (b ++ c)) refl

split-literal : (l : Literal) (c : List Literal) (rest : List ℕ) →
    clause_text (l ∷ c) ++ rest ≡ literal_word l ++ 32 ∷ (clause_text c ++ rest)
split-literal l c rest =
    let w = literal_word l in
    let more = flat_map literal_text c in
    let zero_line : List ℕ = 48 ∷ 10 ∷ [] in
    rw (append_assoc (w ++ 32 ∷ []) more zero_line) (regrouped w (more ++ zero_line) rest)

-- the words of a clause's line
clause-line : (c : List Literal) (vars : ℕ) (rest : List ℕ) (line last : ℕ) (first : Bool) →
    vars ≤ 1_000_000 → VarsIn vars c →
    words line last first (clause_text c ++ rest) ≡ clause_words c ++ words (line + 1) line true
    rest
clause-line [] vars rest line last first few small =
    words-feed (48 ∷ []) rest line last first zero-word.word (plain-first first (48 ∷ []) refl)
clause-line (l ∷ c) vars rest line last first few small =
    let numeral = literal-numeral l.positive l.index (omega (arith, small.0)) in
    rw (split-literal l c rest)
    (words-space (literal_word l) (clause_text c ++ rest) line last first numeral.word
    (plain-first first (literal_word l) numeral.plain)
    ∙ ap (λ ws. literal_word l ∷ ws) (clause-line c vars rest line line false few small.1))

-- the words of all clauses
clause-lines : (cs : List (List Literal)) (vars line last : ℕ) → vars ≤ 1_000_000 →
    AllVarsIn vars cs → words line last true (flat_map clause_text cs) ≡ flat_map clause_words cs
clause-lines [] vars line last few small = refl
clause-lines (c ∷ cs) vars line last few small =
    clause-line c vars (flat_map clause_text cs) line last true few small.0
    ∙ ap (λ ws. clause_words c ++ ws) (clause-lines cs vars (line + 1) line few small.1)

-- the words of the header, and what follows them
header-words : (v c : ℕ) (rest : List ℕ) → v < 2 ^ 64 → c < 2 ^ 64 →
    words 1 1 true (header_text v c ++ rest) ≡ p_word ∷ cnf_word ∷ decimal v ∷ decimal c ∷ words 2 1
    true rest
header-words v c rest small_v small_c =
    let dv = decimal v in
    let dc = decimal c in
    let is_v = count-numeral dv (decimal-is-count v small_v) in
    let is_c = count-numeral dc (decimal-is-count c small_c) in
    let counts : List ℕ = (dv ++ 32 ∷ []) ++ (dc ++ 10 ∷ []) in
    let grouped_right : counts ++ rest ≡ dv ++ 32 ∷ (dc ++ 10 ∷ rest) =
    regrouped dv (dc ++ 10 ∷ []) rest
    ∙ ap (λ text. dv ++ 32 ∷ text) (append_assoc dc (10 ∷ []) rest) in
    words-space p_word (cnf_word ++ 32 ∷ (counts ++ rest)) 1 1 true (refl, refl, tt) refl
    ∙ ap (λ ws. p_word ∷ ws)
    (words-space cnf_word (counts ++ rest) 1 1 false
    (refl, refl, (refl, refl, (refl, refl, tt))) refl
    ∙ ap (λ ws. cnf_word ∷ ws) (ap (words 1 1 false) grouped_right
    ∙ words-space dv (dc ++ 10 ∷ rest) 1 1 false is_v.word refl
    ∙ ap (λ ws. dv ∷ ws) (words-feed dc rest 1 1 false is_c.word refl)))

clause-numbers : (c : List Literal) (vars : ℕ) → vars ≤ 1_000_000 → VarsIn vars c →
    map number (clause_words c) ≡ numbers_of c
clause-numbers [] vars few small = refl
clause-numbers (l ∷ c) vars few small =
    rw (
      number-literal l.positive l.index (omega (arith, small.0)),
      clause-numbers c vars few small.1,
    ) refl

-- the clauses' words are their numbers
body-numbers : (cs : List (List Literal)) (vars : ℕ) → vars ≤ 1_000_000 → AllVarsIn vars cs →
    map number (flat_map clause_words cs) ≡ flat_map numbers_of cs
body-numbers [] vars few small = refl
body-numbers (c ∷ cs) vars few small =
    rw (
      map-append number (clause_words c) (flat_map clause_words cs),
      clause-numbers c vars few small.0,
      body-numbers cs vars few small.1,
    ) refl

pub canonical-spells : (f : Cnf) → IsBounded f → Spells (canonical_text f) f
canonical-spells f bounded =
    let small = all-vars-in f.vars f.clauses bounded.within in
    let body = flat_map clause_words f.clauses in
    let ends = ends-whole (canonical_text f) (spot 1 1 true []) in
    record {
      vars = decimal f.vars;
      count = decimal (length f.clauses);
      body = body;
      rest = [];
      split = header-words f.vars (length f.clauses) (flat_map clause_text f.clauses)
          (omega (arith, bounded.vars)) (omega (arith, bounded.clauses))
          ∙ rw (clause-lines f.clauses f.vars 2 1 bounded.vars small, append-nil body) refl;
      is_vars = decimal-is-count f.vars (omega (arith, bounded.vars));
      vars_value = value-decimal f.vars (omega (arith, bounded.vars));
      is_clauses = decimal-is-count (length f.clauses) (omega (arith, bounded.clauses));
      count_value = value-decimal (length f.clauses) (omega (arith, bounded.clauses));
      clauses = body-numbers f.clauses f.vars bounded.vars small;
      within = bounded.within;
      closed = rw ends.is tt;
    }
