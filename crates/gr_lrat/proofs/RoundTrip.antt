-- written lines and logs are read again
use Rattle.std.proofs.Common.{◌≡◌, ◌∙◌, ℕ, suc, ◌+◌, ◌-◌, ◌<◌, Bool, true, false, List, [], ◌∷◌, ◌++◌, length, map, refl, sym, ap, arith, All, Option, Some, None, cond, append_assoc, inl, inr, ◌&&◌}
use Rattle.std.specs.List.{AllByRecursion}
use Rattle.std.specs.Fmt.{decimal, signed_decimal}
use Rattle.std.proofs.lemmas.List.{append-nil}
use Rattle.std.proofs.lemmas.List.Elements.{recursion_from_All}
use Rattle.gr_logic.specs.Literals.{Literal, number_of}
use Rattle.gr_logic.specs.Formulas.{Cnf}
use Rattle.gr_logic.specs.Log.{IsId, Cause, LogState, opening, line_cause, after_line, first_cause, refusal_from, refusal, state_after}
use Rattle.gr_logic.specs.declared.lines.Line.{Line}
use Rattle.gr_logic.specs.declared.lines.Line.TheVariants.{Add, Delete}
use Rattle.gr_text.specs.Tokens.{front, marks}
use Rattle.gr_lrat.specs.Writing.{literals_text, ids_text, zero_space, zero_line_feed, d_space, line_text, log_text}
use Rattle.gr_lrat.specs.Lines.{Spelled, AllIds, ids_from, addition_from, addition_of, deletion_with, statement_of, spelling, line_tokens, line_read}
use Rattle.gr_lrat.specs.Logs.{NumberedLine, AtEnd, LogOutcome, Verified, NoEmptyClause, Refused, with_line, log_from, log_read, outcome_at, refused_or, outcome_from, log_outcome}
use Rattle.gr_lrat.specs.Laws.{IsWritable, as_read, ReadsBack}
use Rattle.gr_lrat.proofs.Counted.{bool_cases}
use Rattle.gr_text.proofs.Digits.{decimal-is-count}
use Rattle.gr_text.proofs.Words.{spot, all_marks, word_space, word_feed}
use Rattle.gr_lrat.proofs.Written.{AreWords, words_text, line_marks}
use Rattle.gr_lrat.proofs.Digits.{id_number, literal_number, id_of-decimal, literal_said-number}

-- the zero that closes a list
abbrev zero_word : List ℕ
zero_word = 48 ∷ []

-- a literal's word
abbrev literal_word : Literal → List ℕ
literal_word l = signed_decimal (number_of l)

-- the words of a line before its last 0
abbrev words_of : Line → List (List ℕ)
words_of (Add id clause hints) = decimal id ∷ (map literal_word clause ++ zero_word ∷ map decimal
    hints)
words_of (Delete id ids) = decimal id ∷ (100 ∷ []) ∷ map decimal ids

ids_words : (ids : List ℕ) → words_text (map decimal ids) ≡ ids_text ids
ids_words [] = refl
ids_words (id ∷ ids) = ap (λ t. (decimal id ++ 32 ∷ []) ++ t) (ids_words ids)

clause_words : (clause : List Literal) (ws : List (List ℕ)) →
    words_text (map literal_word clause ++ ws) ≡ literals_text clause ++ words_text ws
clause_words [] ws = refl
clause_words (l ∷ clause) ws =
    ap (λ t. (literal_word l ++ 32 ∷ []) ++ t) (clause_words clause ws)
    ∙ sym (append_assoc (literal_word l ++ 32 ∷ []) (literals_text clause) (words_text ws))

-- a line's text is its words, and then the last 0
text_words : (x : Line) (rest : List ℕ) → line_text x ++ rest
    ≡ words_text (words_of x) ++ 48 ∷ 10 ∷ rest
text_words (Add id clause hints) rest =
    let number = decimal id ++ 32 ∷ [] in
    let literals = literals_text clause in
    let list = ids_text hints in
    append_assoc number ((literals ++ zero_space) ++ (list ++ zero_line_feed)) rest
    ∙ ap (λ t. number ++ t) (append_assoc (literals ++ zero_space) (list ++ zero_line_feed) rest
    ∙ append_assoc literals zero_space ((list ++ zero_line_feed) ++ rest)
    ∙ ap (λ t. literals ++ (zero_space ++ t)) (append_assoc list zero_line_feed rest)
    ∙ ap (λ t. literals ++ (zero_space ++ (t ++ 48 ∷ 10 ∷ rest))) (sym (ids_words hints))
    ∙ ap (λ t. literals ++ t) (sym (append_assoc zero_space (words_text (map decimal hints)) (48
    ∷ 10 ∷ rest)))
    ∙ sym (append_assoc literals (zero_space ++ words_text (map decimal hints)) (48 ∷ 10 ∷
    rest))
    ∙ ap (λ t. t ++ 48 ∷ 10 ∷ rest) (sym (clause_words clause (zero_word ∷ map decimal hints))))
    ∙ sym (append_assoc number (words_text (map literal_word clause ++ zero_word ∷ map decimal
    hints)) (48 ∷ 10 ∷ rest))
text_words (Delete id ids) rest =
    let number = decimal id ++ 32 ∷ [] in
    let list = ids_text ids in
    append_assoc number (d_space ++ (list ++ zero_line_feed)) rest
    ∙ ap (λ t. number ++ t) (append_assoc d_space (list ++ zero_line_feed) rest
    ∙ ap (λ t. d_space ++ t) (append_assoc list zero_line_feed rest)
    ∙ ap (λ t. d_space ++ (t ++ 48 ∷ 10 ∷ rest)) (sym (ids_words ids))
    ∙ sym (append_assoc d_space (words_text (map decimal ids)) (48 ∷ 10 ∷ rest)))
    ∙ sym (append_assoc number (d_space ++ words_text (map decimal ids)) (48 ∷ 10 ∷ rest))

-- ids, one by one
abbrev AreIds : List ℕ → Type 0
AreIds ids = AllByRecursion IsId ids

-- literals, one by one
abbrev AreLiterals : List Literal → Type 0
AreLiterals ls = AllByRecursion (λ l. l.index < 1_000_000) ls

ids_are_words : (ids : List ℕ) → AreIds ids → AreWords (map decimal ids)
ids_are_words [] is_id = tt
ids_are_words (id ∷ ids) is_id = ((id_number id is_id.0).word, ids_are_words ids is_id.1)

literals_are_words : (clause : List Literal) (ws : List (List ℕ)) → AreLiterals clause →
    AreWords ws → AreWords (map literal_word clause ++ ws)
literals_are_words [] ws small words = words
literals_are_words (l ∷ clause) ws small words =
    ((literal_number l.positive l.index small.0).word, literals_are_words clause ws small.1 words)

-- the words of a list of ids, and the last 0, are read as this list
ids_read : (ids before : List ℕ) → AreIds ids → ids_from false before (map decimal ids ++ zero_word
    ∷ []) ≡ AllIds (before ++ ids)
ids_read [] before is_id = ap AllIds (sym (append-nil before))
ids_read (id ∷ ids) before is_id =
    let number = id_number id is_id.0 in
    let plain = number.no_zero in
    let said = id_of-decimal id is_id.0 in
    rw (plain, said) (ids_read ids (before ++ id ∷ []) is_id.1
    ∙ ap AllIds (append_assoc before (id ∷ []) ids))

-- the words of an addition behind its id are read as its clause and hints
clause_read : (id : ℕ) (clause before : List Literal) (hints : List ℕ) → AreLiterals clause →
    AreIds hints →
    addition_from id before ((map literal_word clause ++ zero_word ∷ map decimal hints) ++ zero_word
    ∷ [])
    ≡ Spelled (Add id (before ++ clause) hints)
clause_read id [] before hints small is_id =
    rw (ids_read hints [] is_id, append-nil before) refl
clause_read id (l ∷ clause) before hints small is_id =
    let number = literal_number l.positive l.index small.0 in
    let plain = number.no_zero in
    let said = literal_said-number l.positive l.index small.0 in
    rw (plain, said) (clause_read id clause (before ++ l ∷ []) hints small.1 is_id
    ∙ ap (λ c. Spelled (Add id c hints)) (append_assoc before (l ∷ []) clause))

-- behind an id the words of a clause begin with no letter
adds_words : (w : List ℕ) (clause : List Literal) (more : List (List ℕ)) → AreLiterals clause →
    statement_of w (map literal_word clause ++ zero_word ∷ more)
    ≡ addition_of w (map literal_word clause ++ zero_word ∷ more)
adds_words w [] more small = refl
adds_words w (l ∷ clause) more small =
    let number = literal_number l.positive l.index small.0 in
    let plain = number.no_letter in
    rw plain refl

-- the words of a line, and the last 0, spell this line
words_spell : (x : Line) → IsWritable x → spelling (words_of x ++ zero_word ∷ [])
    ≡ Spelled (as_read x)
words_spell (Add id clause hints) ok =
    let number = id_number id ok.ids.0 in
    let plain = number.no_comment in
    let said = id_of-decimal id ok.ids.0 in
    let literals = recursion_from_All _ clause ok.literals in
    let list = recursion_from_All IsId hints ok.ids.1 in
    let behind = map literal_word clause ++ (zero_word ∷ (map decimal hints ++ zero_word ∷ [])) in
    let group : (map literal_word clause ++ zero_word ∷ map decimal hints) ++ zero_word ∷ []
    ≡ behind =
    append_assoc (map literal_word clause) (zero_word ∷ map decimal hints) (zero_word ∷ []) in
    rw plain (
    ap (statement_of (decimal id)) group
    ∙ adds_words (decimal id) clause (map decimal hints ++ zero_word ∷ []) literals
    ∙ ap (addition_of (decimal id)) (sym group)
    ∙ rw said (clause_read id clause [] hints literals list))
words_spell (Delete id ids) ok =
    let number = id_number id ok.ids.0 in
    let plain = number.no_comment in
    let count = decimal-is-count id (omega (arith, ok.ids.0.1)) in
    let list = recursion_from_All IsId ids ok.ids.1 in
    rw (plain, count) (ap deletion_with (ids_read ids [] list))

-- the words of a line are words
words_are : (x : Line) → IsWritable x → AreWords (words_of x)
words_are (Add id clause hints) ok = (
  (id_number id ok.ids.0).word,
  literals_are_words clause (zero_word ∷ map decimal hints) (recursion_from_All _ clause
      ok.literals)
      ((refl, refl, tt), ids_are_words hints (recursion_from_All IsId hints ok.ids.1)),
)
words_are (Delete id ids) ok = (
  (id_number id ok.ids.0).word,
  (
    (refl, refl, tt),
    ids_are_words ids (recursion_from_All IsId ids
        ok.ids.1),
  ),
)

-- the words of a line, and the last 0, stand in its text
line_words : (ws : List (List ℕ)) (more line last : ℕ) (first : Bool) (rest : List ℕ) →
    AreWords ws →
    line_tokens (all_marks more (spot line last first []) (words_text ws ++ 48 ∷ 10 ∷ rest))
    ≡ ws ++ zero_word ∷ []
line_words [] more line last first rest words =
    ap line_tokens (word_feed more zero_word rest line last first (refl, refl, tt))
line_words (w ∷ ws) more line last first rest words =
    let group : ((w ++ 32 ∷ []) ++ words_text ws) ++ 48 ∷ 10 ∷ rest
    ≡ w ++ 32 ∷ (words_text ws ++ 48 ∷ 10 ∷ rest) =
    append_assoc (w ++ 32 ∷ []) (words_text ws) (48 ∷ 10 ∷ rest)
    ∙ append_assoc w (32 ∷ []) (words_text ws ++ 48 ∷ 10 ∷ rest) in
    ap (λ t. line_tokens (all_marks more (spot line last first []) t)) group
    ∙ ap line_tokens (word_space more w (words_text ws ++ 48 ∷ 10 ∷ rest) line last first words.0)
    ∙ ap (λ t. w ∷ t) (line_words ws more line line (first && false) rest words.1)

-- the text of a line spells this line
pub line_again : (x : Line) → IsWritable x → line_read (line_text x) ≡ Spelled (as_read x)
line_again x ok =
    let text : line_text x ≡ words_text (words_of x) ++ 48 ∷ 10 ∷ [] = sym (append-nil (line_text
    x)) ∙ text_words x [] in
    ap line_read text
    ∙ ap spelling (line_words (words_of x) 0 1 1 true [] (words_are x ok))
    ∙ words_spell x ok

-- the lines, numbered from a first number on, as they are read again
abbrev numbered : ℕ → List Line → List NumberedLine
numbered n [] = []
numbered n (x ∷ xs) = record { number = n; line = as_read x } ∷ numbered (n + 1) xs

-- each line can be read again
abbrev AreWritable : List Line → Type 0
AreWritable xs = AllByRecursion IsWritable xs

-- the text of a log is read as its lines
log_again : (xs : List Line) (more n last : ℕ) → AreWritable xs →
    log_from [] (all_marks more (spot n last true []) (log_text xs))
    ≡ record { lines = numbered n xs; end = AtEnd }
log_again [] more n last ok =
    let room : 0 + suc more ≡ suc more = omega arith in
    rw room refl
log_again (x ∷ xs) more n last ok =
    ap (λ t. log_from [] (all_marks more (spot n last true []) t)) (text_words x (log_text xs))
    ∙ line_marks (words_of x) [] more n last true (log_text xs) (words_are x ok.0)
    ∙ ap (λ y. with_line y n (log_from [] (all_marks more (spot (n + 1) n true []) (log_text xs))))
    (words_spell x ok.0)
    ∙ ap (with_line (Spelled (as_read x)) n) (log_again xs more (n + 1) n ok.1)

-- what a log is that was refused, or ended in a state
abbrev decided : Option (ℕ × Cause) → LogState → LogOutcome
decided None s = outcome_at s AtEnd
decided (Some p) s = Refused p.0 p.1

one_line : (o : Option Cause) (n : ℕ) (later : LogOutcome) (r : Option (ℕ × Cause)) (s : LogState) →
    later ≡ decided r s → refused_or n o later ≡ decided (first_cause n o r) s
one_line None n later r s e = e
one_line (Some why) n later r s e = refl

-- the outcome of the lines is the log's
outcome_again : (xs : List Line) (n : ℕ) (s : LogState) →
    outcome_from s (numbered n xs) AtEnd ≡ decided (refusal_from n s xs) (state_after s xs)
outcome_again [] n s = refl
outcome_again (Add id clause hints ∷ xs) n s =
    let x = Add id clause hints in
    one_line (line_cause s x) n _ (refusal_from (n + 1) (after_line s x) xs) (state_after
    (after_line s x) xs)
    (outcome_again xs (n + 1) (after_line s x))
outcome_again (Delete id ids ∷ xs) n s =
    let x = Delete id ids in
    one_line (line_cause s x) n _ (refusal_from (n + 1) (after_line s x) xs) (state_after
    (after_line s x) xs)
    (outcome_again xs (n + 1) (after_line s x))

whole : (f : Cnf) (xs : List Line) (most : ℕ) → All IsWritable xs → length (log_text xs) < most →
    log_outcome f (log_text xs) most ≡ decided (refusal f xs) (state_after (opening f) xs)
whole f xs most ok short =
    let text = log_text xs in
    let room : most ≡ length text + suc (most - length text - 1) = omega arith in
    let read : log_read most text ≡ record { lines = numbered 1 xs; end = AtEnd } =
    ap (λ m. log_from [] (marks front m text)) room
    ∙ log_again xs (most - length text - 1) 1 1 (recursion_from_All IsWritable xs ok) in
    ap (λ r. outcome_from (opening f) r.lines r.end) read ∙ outcome_again xs 1 (opening f)

only_some : (r : Option (ℕ × Cause)) (s : LogState) (n : ℕ) (why : Cause) →
    decided r s ≡ Refused n why → r ≡ Some (n, why)
only_some None s n why e = elim (bool_cases s.refuted) [
  | inl h ↦ absurd (cc (rw h at e))
  | inr h ↦ absurd (cc (rw h at e))
]
only_some (Some p) s n why e =
    let number : p.0 ≡ n = cc in
    let cause : p.1 ≡ why = cc in
    ap (λ m. Some (m, p.1)) number ∙ ap (λ c. Some (n, c)) cause

only_none : (r : Option (ℕ × Cause)) (s : LogState) → decided r s ≡ Verified →
    (r ≡ None) × (s.refuted ≡ true)
only_none None s e = elim (bool_cases s.refuted) [
  | inl h ↦ (refl, h)
  | inr h ↦ absurd (cc (rw h at e))
]
only_none (Some p) s e = absurd (cc)

-- a written log reads back
pub logs_again : (f : Cnf) (xs : List Line) (most : ℕ) → All IsWritable xs →
    length (log_text xs) < most → ReadsBack f xs most
logs_again f xs most ok short =
    let outcome = whole f xs most ok short in
    let s = state_after (opening f) xs in
    record {
      refused = λ n why e. outcome ∙ ap (λ r. decided r s) e;
      only_refused = λ n why e. only_some (refusal f xs) s n why (sym outcome ∙ e);
      verified = λ a. outcome ∙ ap (λ r. decided r s) a.0
          ∙ ap (λ b. cond b Verified NoEmptyClause) a.1;
      only_verified = λ e. only_none (refusal f xs) s (sym outcome ∙ e);
    }
