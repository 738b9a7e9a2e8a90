-- the marks of a text read it, and no others do
use Rattle.std.proofs.Common.{◌≡◌, ◌∙◌, ℕ, zero, suc, ◌+◌, ◌-◌, ◌<◌, Bool, true, false, List, [], ◌∷◌, ◌++◌, length, refl, sym, ap, ap₂, subst, arith, inl, inr}
use Rattle.std.specs.Prelude.{All}
use Rattle.std.proofs.lemmas.List.{append_assoc, length-append}
use Rattle.std.proofs.lemmas.List.Elements.{All-nil, All-cons, All-head, All-tail, All-push}
use Rattle.std.proofs.lemmas.Grind.{common_steps}
use Rattle.gr_text.specs.Tokens.{is_space, is_blank, Mark, Word, Break, Stop, Cut, marks}
use Rattle.gr_text.specs.Places.{BeginsBlank}
use Rattle.gr_text.specs.Laws.{IsGap, Comes, Reads, line_of, line_ends, MarksReadTheText, NoOtherMarksReadIt, LinesAreCounted}
use Rattle.gr_text.proofs.Marks.{spot, bool_cases, in_word, space-step, word-step, word-ends, blank-cases, append_nil}

abbrev IsSpaceByte : ℕ → Type 0
IsSpaceByte b = is_space b ≡ true

abbrev IsTokenByte : ℕ → Type 0
IsTokenByte b = is_blank b ≡ false

comes-now : (bytes rest : List ℕ) → Comes bytes (bytes ++ rest) rest
comes-now bytes rest = record { gap = []; whole = refl; spaces = All-nil IsSpaceByte }

-- one more space in front
comes-more : (b : ℕ) (bytes text rest : List ℕ) → is_space b ≡ true → Comes bytes text rest
    → Comes bytes (b ∷ text) rest
comes-more b bytes text rest h c = record {
  gap = b ∷ c.gap;
  whole = ap (λ t. b ∷ t) c.whole;
  spaces = All-cons IsSpaceByte b c.gap h c.spaces;
}

gap-more : (b line : ℕ) (first : Bool) (text : List ℕ) (ms : List Mark) → is_space b ≡ true
    → Reads line first text ms → Reads line first (b ∷ text) ms
gap-more b line first text [] h r = absurd r
gap-more b line first text (Word l f w ∷ ms) h r =
    (r.0, (comes-more b w text r.0 h r.1.0, r.1.1, r.1.2, r.1.3, r.1.4, r.1.5))
gap-more b line first text (Break l ∷ ms) h r =
    (r.0, (comes-more b (10 ∷ []) text r.0 h r.1.0, r.1.1, r.1.2))
gap-more b line first text (Stop l ∷ ms) h r = (All-cons IsSpaceByte b text h r.0, r.1, r.2)
gap-more b line first text (Cut l ∷ ms) h r = absurd r

-- a blank between tokens, where the marks behind it read the rest
blank-read : (b line last : ℕ) (first : Bool) (text : List ℕ) (room : ℕ) → is_blank b ≡ true
    → ((l k : ℕ) (f : Bool) → Reads l f text (marks (spot l k f []) room text)) →
    Reads line first (b ∷ text) (marks (spot line last first []) (suc room) (b ∷ text))
blank-read b line last first text room blank inner =
    elim (blank-cases b blank) [
      | inl feed ↦
          let ten : b ≡ 10 = grind (arith, common_steps) in
          rw ten (text, (comes-now (10 ∷ []) text, refl, inner (line + 1) line true))
      | inr gap ↦ subst (λ ms. Reads line first (b ∷ text) ms)
          (sym (space-step b line last first room text gap.1))
          (gap-more b line first text _ gap.1 (inner line line first))
    ]

-- a blank behind a token that was begun, or behind none
behind : (b : ℕ) (text word : List ℕ) (line last : ℕ) (first : Bool) (room : ℕ)
    → All (λ c. is_blank c ≡ false) word → is_blank b ≡ true
    → ((l k : ℕ) (f : Bool) → Reads l f text (marks (spot l k f []) room text)) →
    Reads line first (word ++ b ∷ text) (marks (spot line last first word) (suc room) (b ∷ text))
behind b text [] line last first room bytes blank inner =
    blank-read b line last first text room blank inner
behind b text (x ∷ word) line last first room bytes blank inner =
    subst (λ ms. Reads line first ((x ∷ word) ++ b ∷ text) ms)
    (sym (word-ends b text line first x word room blank)) (
      b ∷ text,
      (
        comes-now (x ∷ word) (b ∷ text),
        (omega arith, bytes),
        blank,
        refl,
        refl,
        blank-read b line line false text room blank inner,
      ),
    )

-- the marks from a spot on read what was begun there and what is to come
reads-on : (text word : List ℕ) (line last : ℕ) (first : Bool) (room : ℕ)
    → All (λ b. is_blank b ≡ false) word → length text < room →
    Reads line first (word ++ text) (marks (spot line last first word) room text)
reads-on text word line last first zero bytes fits = absurd (omega arith)
reads-on [] [] line last first (suc room) bytes fits = (All-nil IsSpaceByte, refl, refl)
reads-on [] (x ∷ word) line last first (suc room) bytes fits =
    ([], (comes-now (x ∷ word) [], (omega arith, bytes), tt, refl, refl, (All-nil IsSpaceByte, refl, refl)))
reads-on (b ∷ text) word line last first (suc room) bytes fits =
    let inner : (l k : ℕ) (f : Bool) → Reads l f text (marks (spot l k f []) room text) =
    λ l k f. reads-on text [] l k f room (All-nil IsTokenByte) (omega arith) in
    elim (bool_cases (is_blank b)) [
      | inl blank ↦ behind b text word line last first room bytes blank inner
      | inr byte ↦
          let more : in_word b ≡ true = rw byte refl in
          let longer = All-push IsTokenByte word b bytes byte in
          subst (λ ms. Reads line first (word ++ b ∷ text) ms)
          (sym (word-step b line last first word room text more))
          (subst (λ t. Reads line first t (marks (spot line line first (word ++ b ∷ [])) room text))
          (append_assoc word (b ∷ []) text)
          (reads-on text (word ++ b ∷ []) line line first room longer (omega arith)))
    ]

pub reads_whole : MarksReadTheText
reads_whole limit text fits = reads-on text [] 1 1 true limit (All-nil IsTokenByte) fits

append_some : (before after : List Mark) (m : Mark) → before ++ m ∷ after ≡ [] → ⊥
append_some [] after m h = absurd (cc h)
append_some (x ∷ before) after m h = absurd (cc h)

lines-after : (before after : List Mark) (m : Mark) (line : ℕ) (first : Bool) (text : List ℕ)
    → Reads line first text (before ++ m ∷ after) → line_of m ≡ line + line_ends before
lines-after [] after (Word l f w) line first text r = omega (arith, r.1.3)
lines-after [] after (Break l) line first text r = omega (arith, r.1.1)
lines-after [] after (Stop l) line first text r = omega (arith, r.1)
lines-after [] after (Cut l) line first text r = absurd r
lines-after (Word l f w ∷ before) after m line first text r =
    lines-after before after m line false r.0 r.1.5
lines-after (Break l ∷ before) after m line first text r =
    omega (arith, lines-after before after m (line + 1) true r.0 r.1.2)
lines-after (Stop l ∷ before) after m line first text r = absurd (append_some before after m r.2)
lines-after (Cut l ∷ before) after m line first text r = absurd r

pub lines_counted : LinesAreCounted
lines_counted limit text before after m fits same =
    lines-after before after m 1 true text
    (subst (λ ms. Reads 1 true text ms) same (reads_whole limit text fits))

-- where a byte may be looked at, the line of the last one does not matter
last-free : (text : List ℕ) (line last other : ℕ) (first : Bool) (room : ℕ) → 0 < room →
    marks (spot line last first []) room text ≡ marks (spot line other first []) room text
last-free text line last other first zero some = absurd (omega arith)
last-free [] line last other first (suc room) some = refl
last-free (b ∷ text) line last other first (suc room) some = refl

gap-run : (gap rest : List ℕ) (line last : ℕ) (first : Bool) (room : ℕ) → IsGap gap
    → length gap + length rest < room →
    marks (spot line last first []) room (gap ++ rest)
    ≡ marks (spot line line first []) (room - length gap) rest
gap-run [] rest line last first room spaces fits =
    let same : room - 0 ≡ room = omega arith in
    last-free rest line last line first room (omega arith)
    ∙ ap (λ n. marks (spot line line first []) n rest) (sym same)
gap-run (b ∷ gap) rest line last first zero spaces fits = absurd (omega arith)
gap-run (b ∷ gap) rest line last first (suc room) spaces fits =
    let less : room - length gap ≡ suc room - suc (length gap) = omega arith in
    space-step b line last first room (gap ++ rest) (All-head IsSpaceByte b gap spaces)
    ∙ gap-run gap rest line line first room (All-tail IsSpaceByte b gap spaces) (omega arith)
    ∙ ap (λ n. marks (spot line line first []) n rest) less

bytes-run : (bytes word rest : List ℕ) (line : ℕ) (first : Bool) (room : ℕ)
    → All (λ b. is_blank b ≡ false) bytes → length bytes + length rest < room →
    marks (spot line line first word) room (bytes ++ rest)
    ≡ marks (spot line line first (word ++ bytes)) (room - length bytes) rest
bytes-run [] word rest line first room all fits =
    let same : room - 0 ≡ room = omega arith in
    ap₂ (λ w n. marks (spot line line first w) n rest) (sym (append_nil word)) (sym same)
bytes-run (b ∷ bytes) word rest line first zero all fits = absurd (omega arith)
bytes-run (b ∷ bytes) word rest line first (suc room) all fits =
    let less : room - length bytes ≡ suc room - suc (length bytes) = omega arith in
    let byte : is_blank b ≡ false = All-head IsTokenByte b bytes all in
    let more : in_word b ≡ true = rw byte refl in
    word-step b line line first word room (bytes ++ rest) more
    ∙ bytes-run bytes (word ++ b ∷ []) rest line first room (All-tail IsTokenByte b bytes all) (omega arith)
    ∙ ap₂ (λ w n. marks (spot line line first w) n rest) (append_assoc word (b ∷ []) bytes) less

token-ends : (rest word : List ℕ) (line : ℕ) (first : Bool) (room : ℕ) → 0 < length word
    → BeginsBlank rest → 0 < room →
    marks (spot line line first word) room rest
    ≡ Word line first word ∷ marks (spot line line false []) room rest
token-ends rest word line first zero some blank left = absurd (omega arith)
token-ends rest [] line first (suc room) some blank left = absurd (omega arith)
token-ends [] (w ∷ ws) line first (suc room) some blank left = refl
token-ends (b ∷ bs) (w ∷ ws) line first (suc room) some blank left =
    word-ends b bs line first w ws room blank

feed-ends : (rest : List ℕ) (line : ℕ) (first : Bool) (room less : ℕ) → room ≡ suc less →
    marks (spot line line first []) room (10 ∷ rest)
    ≡ Break line ∷ marks (spot (line + 1) line true []) less rest
feed-ends rest line first room less e = rw e refl

stop-ends : (line : ℕ) (first : Bool) (room : ℕ) → 0 < room
    → marks (spot line line first []) room [] ≡ Stop line ∷ []
stop-ends line first zero some = absurd (omega arith)
stop-ends line first (suc room) some = refl

-- what reads a text are its marks
only : (ms : List Mark) (text : List ℕ) (line last : ℕ) (first : Bool) (room : ℕ)
    → length text < room → Reads line first text ms
    → ms ≡ marks (spot line last first []) room text
only [] text line last first room fits r = absurd r
only (Word l f w ∷ ms) text line last first room fits r =
    let rest = r.0 in
    let c = r.1.0 in
    let long : length text ≡ length c.gap + (length w + length rest) =
    ap (λ t. length t) c.whole ∙ length-append c.gap (w ++ rest)
    ∙ ap (λ n. length c.gap + n) (length-append w rest) in
    let left = room - length c.gap in
    let back = left - length w in
    let after = only ms rest line line false back (omega (arith, long, fits)) r.1.5 in
    let whole : marks (spot line last first []) room text ≡ Word line first w ∷ ms =
    ap (λ t. marks (spot line last first []) room t) c.whole
    ∙ gap-run c.gap (w ++ rest) line last first room c.spaces
    (omega (arith, long, fits, length-append w rest))
    ∙ bytes-run w [] rest line first left r.1.1.1 (omega (arith, long, fits))
    ∙ token-ends rest w line first back r.1.1.0 r.1.2 (omega (arith, long, fits))
    ∙ ap (λ more. Word line first w ∷ more) (sym after) in
    rw (r.1.3, r.1.4) (sym whole)
only (Break l ∷ ms) text line last first room fits r =
    let rest = r.0 in
    let c = r.1.0 in
    let long : length text ≡ length c.gap + (1 + length rest) =
    ap (λ t. length t) c.whole ∙ length-append c.gap (10 ∷ rest)
    ∙ omega arith in
    let left = room - length c.gap in
    let less = left - 1 in
    let after = only ms rest (line + 1) line true less (omega (arith, long, fits)) r.1.2 in
    let whole : marks (spot line last first []) room text ≡ Break line ∷ ms =
    ap (λ t. marks (spot line last first []) room t) c.whole
    ∙ gap-run c.gap (10 ∷ rest) line last first room c.spaces (omega (arith, long, fits))
    ∙ feed-ends rest line first left less (omega (arith, long, fits))
    ∙ ap (λ more. Break line ∷ more) (sym after) in
    rw r.1.1 (sym whole)
only (Stop l ∷ ms) text line last first room fits r =
    let whole : marks (spot line last first []) room text ≡ Stop line ∷ [] =
    ap (λ t. marks (spot line last first []) room t) (sym (append_nil text))
    ∙ gap-run text [] line last first room r.0 (omega arith)
    ∙ stop-ends line first (room - length text) (omega arith) in
    rw (r.1, r.2) (sym whole)
only (Cut l ∷ ms) text line last first room fits r = absurd r

pub reads_only : NoOtherMarksReadIt
reads_only limit text ms fits r = only ms text 1 1 true limit fits r
