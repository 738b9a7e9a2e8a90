-- the marks of a text, as a run of its bytes is passed
use Rattle.std.proofs.Common.{◌≡◌, ◌∙◌, ℕ, zero, suc, ◌+◌, Bool, true, false, not, List, [], ◌∷◌, ◌++◌, take, drop, refl, arith, nat_eq, cond, if◌then◌else◌, ◌⊎◌, inl, inr}
use Rattle.std.specs.List.{prefix_len}
use Rattle.std.proofs.lemmas.List.{append_assoc}
use Rattle.std.proofs.lemmas.Grind.{common_steps}
use Rattle.gr_text.specs.Tokens.{is_space, is_blank, is_line_feed, Word, Spot, marks}
use Rattle.gr_text.specs.Places.{BeginsBlank, BeginsPastSpaces}

abbrev pub spot : ℕ → ℕ → Bool → List ℕ → Spot
spot line last first word = record { line = line; last = last; first = first; word = word }

abbrev pub in_word : ℕ → Bool
in_word b = not (is_blank b)

-- a line feed is no space
pub space-no-line-feed : (b : ℕ) → is_space b ≡ true → is_line_feed b ≡ false
space-no-line-feed b h = grind (arith, common_steps)

pub word-no-space : (b : ℕ) → in_word b ≡ true → is_space b ≡ false
word-no-space b h = grind (arith, common_steps)

pub word-no-line-feed : (b : ℕ) → in_word b ≡ true → is_line_feed b ≡ false
word-no-line-feed b h = grind (arith, common_steps)

-- a space between tokens
pub space-step : (b line last : ℕ) (first : Bool) (room : ℕ) (text : List ℕ) → is_space b ≡ true →
    marks (spot line last first []) (suc room) (b ∷ text)
    ≡ marks (spot line line first []) room text
space-step b line last true room text h = let n = space-no-line-feed b h in rw (n, h) refl
space-step b line last false room text h = let n = space-no-line-feed b h in rw (n, h) refl

-- a byte of a token
pub word-step : (b line last : ℕ) (first : Bool) (word : List ℕ) (room : ℕ) (text : List ℕ)
    → in_word b ≡ true →
    marks (spot line last first word) (suc room) (b ∷ text)
    ≡ marks (spot line line first (word ++ b ∷ [])) room text
word-step b line last first word room text h =
    let n = word-no-line-feed b h in
    let s = word-no-space b h in
    rw (n, s) refl

-- the line of the last byte, after n spaces
abbrev pub last_after : ℕ → ℕ → ℕ → ℕ
last_after n line last = if nat_eq n 0 then last else line

pub last_after-same : (n line : ℕ) → last_after n line line ≡ line
last_after-same n line =
    elim (nat_eq n 0) as (λ t. cond t line line ≡ line) [ true ↦ refl | false ↦ refl ]

pub bool_cases : (b : Bool) → (b ≡ true) ⊎ (b ≡ false)
bool_cases true = inl refl
bool_cases false = inr refl

pub nat_eq-suc : (n : ℕ) → nat_eq (suc n) 0 ≡ false
nat_eq-suc n = grind (arith, common_steps)

pub prefix_len-yes : (p : ℕ → Bool) (x : ℕ) (xs : List ℕ) → p x ≡ true
    → prefix_len p (x ∷ xs) ≡ suc (prefix_len p xs)
prefix_len-yes p x xs e = let one : 1 + prefix_len p xs ≡ suc (prefix_len p xs) = omega arith in
    rw (e, one) refl

pub prefix_len-no : (p : ℕ → Bool) (x : ℕ) (xs : List ℕ) → p x ≡ false → prefix_len p (x ∷ xs) ≡ 0
prefix_len-no p x xs e = rw e refl

-- a run of spaces: n of them, within a room of as many and more
pub spaces-run : (xs rest : List ℕ) (line last : ℕ) (first : Bool) (n room more : ℕ)
    → n ≡ prefix_len is_space xs → room ≡ n + more →
    marks (spot line last first []) room (xs ++ rest)
    ≡ marks (spot line (last_after n line last) first []) more (drop n xs ++ rest)
spaces-run [] rest line last first n room more e r =
    let same : room ≡ more = omega arith in
    rw (same, e) refl
spaces-run (x ∷ xs) rest line last first n zero more e r =
    let none : n ≡ 0 = omega arith in
    let less : more ≡ 0 = omega arith in
    rw (none, less) refl
spaces-run (x ∷ xs) rest line last first n (suc room) more e r =
    elim (bool_cases (is_space x)) [
      | inl hit ↦
          let count : n ≡ suc (prefix_len is_space xs) = e ∙ prefix_len-yes is_space x xs hit in
          space-step x line last first room (xs ++ rest) hit
          ∙ spaces-run xs rest line line first (prefix_len is_space xs) room more refl (omega arith)
          ∙ rw (
            count,
            last_after-same (prefix_len is_space xs) line,
            nat_eq-suc
                (prefix_len is_space xs),
          ) refl
      | inr miss ↦
          let none : n ≡ 0 = e ∙ prefix_len-no is_space x xs miss in
          let same : more ≡ suc room = omega arith in
          rw (none, same) refl
    ]

pub append_nil : (w : List ℕ) → w ++ [] ≡ w
append_nil w = grind (arith, common_steps)

-- a run of a token's bytes
pub word-run : (xs rest : List ℕ) (line : ℕ) (first : Bool) (word : List ℕ) (n room more : ℕ)
    → n ≡ prefix_len in_word xs → room ≡ n + more →
    marks (spot line line first word) room (xs ++ rest)
    ≡ marks (spot line line first (word ++ take n xs)) more (drop n xs ++ rest)
word-run [] rest line first word n room more e r =
    let same : room ≡ more = omega arith in
    rw (same, e, append_nil word) refl
word-run (x ∷ xs) rest line first word n zero more e r =
    let none : n ≡ 0 = omega arith in
    let less : more ≡ 0 = omega arith in
    rw (none, less) refl
word-run (x ∷ xs) rest line first word n (suc room) more e r =
    elim (bool_cases (in_word x)) [
      | inl hit ↦
          let count : n ≡ suc (prefix_len in_word xs) = e ∙ prefix_len-yes in_word x xs hit in
          word-step x line line first word room (xs ++ rest) hit
          ∙ word-run xs rest line first (word ++ x ∷ []) (prefix_len in_word xs) room more refl
          (omega arith)
          ∙ rw (count, append_assoc word (x ∷ []) (take (prefix_len in_word xs) xs)) refl
      | inr miss ↦
          let none : n ≡ 0 = e ∙ prefix_len-no in_word x xs miss in
          let same : more ≡ suc room = omega arith in
          rw (none, same, append_nil word) refl
    ]

pub blank-cases : (b : ℕ) → is_blank b ≡ true
    → (is_line_feed b ≡ true) ⊎ ((is_line_feed b ≡ false) × (is_space b ≡ true))
blank-cases b h =
    elim (bool_cases (is_line_feed b))
    [ inl e ↦ inl e | inr e ↦ inr (e, grind (arith, common_steps)) ]

-- a token ends at a blank
pub word-ends : (b : ℕ) (bs : List ℕ) (line : ℕ) (first : Bool) (w : ℕ) (ws : List ℕ) (room : ℕ)
    → is_blank b ≡ true →
    marks (spot line line first (w ∷ ws)) (suc room) (b ∷ bs)
    ≡ Word line first (w ∷ ws) ∷ marks (spot line line false []) (suc room) (b ∷ bs)
word-ends b bs line first w ws room h =
    elim (blank-cases b h) [
      | inl feed ↦ rw feed refl
      | inr space ↦ let a = space.0 in let c = space.1 in
          elim first as
          (λ f. marks (spot line line f (w ∷ ws)) (suc room) (b ∷ bs)
          ≡ Word line f (w ∷ ws) ∷ marks (spot line line false []) (suc room) (b ∷ bs)) [
            | true ↦ rw (a, c) refl
            | false ↦ rw (a, c) refl
          ]
    ]

-- what comes behind a run does not go on with it
pub word-stops : (xs : List ℕ) (n : ℕ) → n ≡ prefix_len in_word xs → BeginsBlank (drop n xs)
word-stops [] n e = rw e tt
word-stops (x ∷ xs) n e =
    elim (bool_cases (in_word x)) [
      | inl hit ↦ rw (e, prefix_len-yes in_word x xs hit)
          (word-stops xs (prefix_len in_word xs) refl)
      | inr miss ↦ rw (e, prefix_len-no in_word x xs miss) (grind (arith, common_steps))
    ]

pub spaces-stop : (xs : List ℕ) (n : ℕ) → n ≡ prefix_len is_space xs → BeginsPastSpaces (drop n xs)
spaces-stop [] n e = rw e tt
spaces-stop (x ∷ xs) n e =
    elim (bool_cases (is_space x)) [
      | inl hit ↦ rw (e, prefix_len-yes is_space x xs hit)
          (spaces-stop xs (prefix_len is_space xs) refl)
      | inr miss ↦ rw (e, prefix_len-no is_space x xs miss) miss
    ]
