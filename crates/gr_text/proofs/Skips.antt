-- a line's rest is passed
use Rattle.std.proofs.Common.{◌≡◌, ◌∙◌, ℕ, zero, suc, ◌+◌, ◌-◌, ◌≤◌, ◌<◌, Bool, true, false, not, ◌&&◌, List, [], ◌∷◌, ◌++◌, length, drop, refl, sym, ap, arith, cond, Option, inl, inr}
use Rattle.std.specs.Option.{option_map}
use Rattle.std.specs.List.{prefix_len}
use Rattle.std.proofs.lemmas.List.Sums.{prefix_len-le-length}
use Rattle.gr_text.specs.Tokens.{is_space, is_line_feed, is_empty, Mark, Break, Stop, Cut, marks, ended, from_line_end}
use Rattle.gr_text.specs.Places.{Place, between, taken, known, limit_of, coming, past_rest, Filled, Leads}
use Rattle.gr_text.specs.Scans.{Keeps, Skips}
use Rattle.gr_text.proofs.Taken.{after-drop}
use Rattle.gr_text.proofs.Marks.{spot, bool_cases, last_after, last_after-same, nat_eq-suc, prefix_len-yes, prefix_len-no}
use Rattle.gr_text.proofs.Leads.{option_map-same, option_map-twice, leads-piece, cut-here}

-- the bytes before a line's end
abbrev in_line : ℕ → Bool
in_line b = not (is_line_feed b)

one : (line : ℕ) (first : Bool) (w : List ℕ) (ms : List Mark)
    → from_line_end ((ended line first w ++ Break line ∷ []) ++ ms) ≡ Break line ∷ ms
one line first [] ms = refl
one line first (b ∷ w) ms = refl

words-go : (line : ℕ) (first : Bool) (w : List ℕ) (ms : List Mark)
    → from_line_end (ended line first w ++ ms) ≡ from_line_end ms
words-go line first [] ms = refl
words-go line first (b ∷ w) ms = refl

-- up to the line's end it does not matter which token was begun
pub spot-free : (text : List ℕ) (line last : ℕ) (f g : Bool) (v w : List ℕ) (room : ℕ) →
    from_line_end (marks (spot line last f v) room text)
    ≡ from_line_end (marks (spot line last g w) room text)
spot-free text line last f g v w zero = refl
spot-free [] line last f g v w (suc room) =
    words-go line f v (Stop line ∷ []) ∙ sym (words-go line g w (Stop line ∷ []))
spot-free (b ∷ text) line last f g v w (suc room) =
    elim (bool_cases (is_line_feed b)) [
      | inl hit ↦ rw hit
          (one line f v (marks (spot (line + 1) line true []) room text)
          ∙ sym (one line g w (marks (spot (line + 1) line true []) room text)))
      | inr miss ↦ elim (bool_cases (is_space b)) [
        | inl gap ↦ rw (miss, gap)
            (words-go line f v _
            ∙ spot-free text line line (f && is_empty v) (g && is_empty w) [] [] room
            ∙ sym (words-go line g w _))
        | inr byte ↦ rw (miss, byte) (spot-free text line line f g (v ++ b ∷ []) (w ++ b ∷ []) room)
      ]
    ]

-- a byte before the line's end is passed
pub rest-step : (b line last : ℕ) (f : Bool) (text : List ℕ) (room : ℕ) → is_line_feed b ≡ false →
    from_line_end (marks (spot line last f []) (suc room) (b ∷ text))
    ≡ from_line_end (marks (spot line line f []) room text)
rest-step b line last f text room miss = elim (bool_cases (is_space b)) [
  | inl gap ↦ rw (miss, gap) (spot-free text line line (f && true) f [] [] room)
  | inr byte ↦ rw (miss, byte) (spot-free text line line f f (b ∷ []) [] room)
]

pub rest-run : (xs rest : List ℕ) (line last : ℕ) (first : Bool) (n room more : ℕ)
    → n ≡ prefix_len in_line xs → room ≡ n + more →
    from_line_end (marks (spot line last first []) room (xs ++ rest))
    ≡ from_line_end
    (marks (spot line (last_after n line last) first []) more (drop n xs ++ rest))
rest-run [] rest line last first n room more e r =
    let same : room ≡ more = omega arith in
    rw (same, e) refl
rest-run (x ∷ xs) rest line last first n zero more e r =
    let none : n ≡ 0 = omega arith in
    let less : more ≡ 0 = omega arith in
    rw (none, less) refl
rest-run (x ∷ xs) rest line last first n (suc room) more e r =
    elim (bool_cases (is_line_feed x)) [
      | inl hit ↦
          let stops : in_line x ≡ false = rw hit refl in
          let none : n ≡ 0 = e ∙ prefix_len-no in_line x xs stops in
          let same : more ≡ suc room = omega arith in
          rw (none, same) refl
      | inr miss ↦
          let goes : in_line x ≡ true = rw miss refl in
          let count : n ≡ suc (prefix_len in_line xs) = e ∙ prefix_len-yes in_line x xs goes in
          rest-step x line last first (xs ++ rest) room miss
          ∙ rest-run xs rest line line first (prefix_len in_line xs) room more refl (omega arith)
          ∙ rw (
            count,
            last_after-same (prefix_len in_line xs) line,
            nat_eq-suc
                (prefix_len in_line xs),
          ) refl
    ]

-- the line's end, or nothing
abbrev pub AtLineEnd : List ℕ → Type 0
AtLineEnd [] = Unit {0}
AtLineEnd (b ∷ bs) = is_line_feed b ≡ true

pub rest-stops : (xs : List ℕ) (n : ℕ) → n ≡ prefix_len in_line xs → AtLineEnd (drop n xs)
rest-stops [] n e = rw e tt
rest-stops (x ∷ xs) n e =
    elim (bool_cases (is_line_feed x)) [
      | inl hit ↦ let stops : in_line x ≡ false = rw hit refl in
          rw (e, prefix_len-no in_line x xs stops) hit
      | inr miss ↦ let goes : in_line x ≡ true = rw miss refl in
          rw (e, prefix_len-yes in_line x xs goes) (rest-stops xs (prefix_len in_line xs) refl)
    ]

-- from one place to another all that was made known lies before the line's end
pub record Passes (p : Place) (l : Option (List ℕ)) (q : Place) (r : Option (List ℕ)) : Type 0 where
  pub same : (limit : ℕ) → known q ≤ limit
      → option_map from_line_end (coming limit p l) ≡ option_map from_line_end (coming limit q r)
  pub grows : known p ≤ known q
  pub limit : limit_of q ≡ limit_of p

pub passes-kept : (p q : Place) (l r : Option (List ℕ)) → Passes p l q r → known q ≤ limit_of q
    → Keeps p q
passes-kept p q l r passes within =
    record { limit = passes.limit; within = within; grows = passes.grows }

pub passes-then : (p q o : Place) (l r k : Option (List ℕ)) → Passes p l q r → Passes q r o k
    → Passes p l o k
passes-then p q o l r k a b = record {
  same = λ limit h. a.same limit (omega (arith, b.grows)) ∙ b.same limit h;
  grows = omega (arith, a.grows, b.grows);
  limit = b.limit ∙ a.limit;
}

pub passes-rest : (p : Place) (l : Option (List ℕ)) → Passes p l (past_rest p) l
passes-rest p l =
    let n = prefix_len in_line p.ahead in
    let within : n ≤ length p.ahead = prefix_len-le-length in_line p.ahead in
    let rest : n + length (drop n p.ahead) ≡ length p.ahead = after-drop p.ahead n within in
    record {
      same = λ limit h.
          let room : limit - p.passed ≡ n + (limit - (p.passed + n)) = omega arith in
          option_map-twice from_line_end _ l
          ∙ option_map-same _ _ l
          (λ more. rest-run p.ahead (cond p.ended [] more) p.line p.last p.first n
          (limit - p.passed) (limit - (p.passed + n)) refl room)
          ∙ sym (option_map-twice from_line_end _ l);
      grows = omega arith;
      limit = omega arith;
    }

pub passes-more : (n : ℕ) (p q o : Place) (l r k : Option (List ℕ)) → Passes p l q r
    → q.ahead ≡ [] → q.ended ≡ false → 0 < q.spare → Filled n q r o k → Passes p l (past_rest o) k
passes-more n p q o l r k a none open_ room filled =
    let taken_in = leads-piece (between q) n q o r k none open_ room filled in
    let moved : Leads (between q) q r (between o) o k =
    rw filled.place (rw filled.place at taken_in) in
    let passed : Passes q r o k = record {
      same = λ limit h. ap (option_map from_line_end) (moved.same limit h);
      grows = moved.grows;
      limit = moved.limit;
    } in
    passes-then p q (past_rest o) l r k a
    (passes-then q o (past_rest o) r k k passed (passes-rest o k))

stands : (ahead more : List ℕ) (ended : Bool) (line last : ℕ) (first : Bool) (room : ℕ)
    → AtLineEnd ahead → (ahead ≡ [] → ended ≡ true) → length ahead + cond ended 1 0 ≤ room →
    from_line_end (marks (spot line last first []) room (ahead ++ cond ended [] more))
    ≡ marks (spot line last first []) room (ahead ++ cond ended [] more)
stands ahead more ended line last first zero at_end ends fits = refl
stands [] more ended line last first (suc room) at_end ends fits = let e = ends refl in rw e refl
stands (b ∷ bs) more ended line last first (suc room) at_end ends fits = rw at_end refl

-- the line's end was reached
pub skips-here : (p q : Place) (l r : Option (List ℕ)) → Passes p l q r → AtLineEnd q.ahead
    → (q.ahead ≡ [] → q.ended ≡ true) → Skips p l q r
skips-here p q l r a at_end ends = λ limit h.
    a.same limit h
    ∙ option_map-twice from_line_end _ r
    ∙ option_map-same _ _ r
    (λ more. stands q.ahead more q.ended q.line q.last q.first (limit - q.passed) at_end ends
    (omega (arith, h)))

taken-known : (q : Place) → q.ended ≡ false → known q ≡ taken q
taken-known q open_ = rw open_ (omega arith)

pub skip-cut : (p q : Place) (l r : Option (List ℕ)) → Passes p l q r → q.ahead ≡ []
    → q.ended ≡ false
    → option_map from_line_end (coming (taken q) p l) ≡ option_map (λ _. Cut q.last ∷ []) r
skip-cut p q l r a none open_ =
    a.same (taken q) (omega (arith, taken-known q open_))
    ∙ ap (option_map from_line_end) (cut-here (between q) q r none open_)
    ∙ option_map-twice from_line_end _ r

pub not-nothing : (xs : List ℕ) → 0 < length xs → (e : Bool) → xs ≡ [] → e ≡ true
not-nothing [] some e h = absurd (omega arith)
not-nothing (x ∷ xs) some e h = absurd (cc h)
