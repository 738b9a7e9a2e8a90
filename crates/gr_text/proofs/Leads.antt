-- from one spot to the next
use Rattle.std.proofs.Common.{◌≡◌, ◌∙◌, ℕ, zero, suc, ◌+◌, ◌-◌, ◌≤◌, ◌<◌, Bool, true, false, List, [], ◌∷◌, ◌++◌, length, take, drop, refl, sym, ap, arith, nat_eq, cond, Option, Some, None}
use Rattle.std.specs.Option.{option_map}
use Rattle.std.specs.List.{prefix_len}
use Rattle.std.proofs.lemmas.List.{length-drop, length-append}
use Rattle.std.proofs.lemmas.List.Sums.{prefix_len-le-length}
use Rattle.std.proofs.Math.Nat.{le-add_right}
use Rattle.gr_io.specs.Pieces.{ComesOff, IsSpent}
use Rattle.gr_text.specs.Tokens.{is_space, Mark, Word, Break, Stop, Cut, Spot, marks}
use Rattle.gr_text.specs.Places.{Place, between, inside, taken, known, coming_from, past_spaces, past_word, past_token, past_line, with_piece, Filled, Leads, BeginsBlank, BeginsWord, BeginsLineEnd}
use Rattle.gr_text.specs.Scans.{Gives, Closes, Fails, Reaches, Spans}
use Rattle.gr_text.specs.declared.scanners.ScanError.{ScanError}
use Rattle.gr_text.specs.declared.scanners.ScanError.TheVariants as errors
use Rattle.gr_text.proofs.Taken.{after-drop}
use Rattle.gr_text.proofs.Marks.{spaces-run, word-run, word-ends, in_word, spot, nat_eq-suc, prefix_len-yes}

pub leads-refl : (s : Spot) (p : Place) (l : Option (List ℕ)) → Leads s p l s p l
leads-refl s p l = record { same = λ limit h. refl; grows = omega arith; limit = refl }

pub leads-then : (s t u : Spot) (p q o : Place) (l r k : Option (List ℕ)) → Leads s p l t q r
    → Leads t q r u o k → Leads s p l u o k
leads-then s t u p q o l r k a b = record {
  same = λ limit h. a.same limit (omega (arith, b.grows)) ∙ b.same limit h;
  grows = omega (arith, a.grows, b.grows);
  limit = b.limit ∙ a.limit;
}

pub option_map-same : {A B : Type 0} (f g : A → B) (o : Option A) → ((x : A) → f x ≡ g x)
    → option_map f o ≡ option_map g o
option_map-same f g None h = refl
option_map-same f g (Some x) h = ap Some (h x)

pub leads-spaces : (p : Place) (l : Option (List ℕ))
    → Leads (between p) p l (between (past_spaces p)) (past_spaces p) l
leads-spaces p l =
    let n = prefix_len is_space p.ahead in
    let within : n ≤ length p.ahead = prefix_len-le-length is_space p.ahead in
    let rest : n + length (drop n p.ahead) ≡ length p.ahead = after-drop p.ahead n within in
    record {
      same = λ limit h. option_map-same _ _ l (λ more.
          let room : limit - p.passed ≡ n + (limit - (p.passed + n)) = omega arith in
          spaces-run p.ahead (cond p.ended [] more) p.line p.last p.first n (limit - p.passed)
          (limit - (p.passed + n)) refl room);
      grows = omega arith;
      limit = omega arith;
    }

pub leads-word : (p : Place) (l : Option (List ℕ))
    → Leads (inside p) p l (inside (past_word p)) (past_word p) l
leads-word p l =
    let n = prefix_len in_word p.ahead in
    let within : n ≤ length p.ahead = prefix_len-le-length in_word p.ahead in
    let rest : n + length (drop n p.ahead) ≡ length p.ahead = after-drop p.ahead n within in
    record {
      same = λ limit h. option_map-same _ _ l (λ more.
          let room : limit - p.passed ≡ n + (limit - (p.passed + n)) = omega arith in
          word-run p.ahead (cond p.ended [] more) p.line p.first p.token n (limit - p.passed)
          (limit - (p.passed + n)) refl room);
      grows = omega arith;
      limit = omega arith;
    }

-- inside a token or before it the line of the last byte does not matter
begins : (xs ys : List ℕ) (line last : ℕ) (first : Bool) (room : ℕ) → 0 < length xs → 0 < room
    → marks (spot line last first []) room (xs ++ ys)
    ≡ marks (spot line line first []) room (xs ++ ys)
begins [] ys line last first room a b = absurd (omega arith)
begins (x ∷ xs) ys line last first zero a b = absurd (omega arith)
begins (x ∷ xs) ys line last first (suc room) a b = refl

pub leads-begin : (p : Place) (l : Option (List ℕ)) → p.token ≡ [] → 0 < length p.ahead
    → Leads (between p) p l (inside p) p l
leads-begin p l none some = record {
  same = λ limit h. option_map-same _ _ l (λ more.
      rw none
      (begins p.ahead (cond p.ended [] more) p.line p.last p.first (limit - p.passed) some
      (omega arith)));
  grows = omega arith;
  limit = refl;
}

pub option_map-twice : {A B C : Type 0} (f : B → C) (g : A → B) (o : Option A)
    → option_map f (option_map g o) ≡ option_map (λ x. f (g x)) o
option_map-twice f g None = refl
option_map-twice f g (Some x) = refl

falls : (piece : List ℕ) (spare : ℕ) → 0 < spare → length piece ≤ spare
    → spare - length piece + cond (nat_eq (length piece) 0) 0 1 < spare + 1
falls [] spare room within = omega arith
falls (x ∷ xs) spare room within = rw (nat_eq-suc (length xs)) (omega arith)

-- a piece was taken
piece-same : (s : Spot) (limit : ℕ) (p : Place) (piece : List ℕ) (l r : Option (List ℕ))
    → p.ahead ≡ [] → p.ended ≡ false → ComesOff piece l r → (length piece ≡ 0 → IsSpent l) →
    coming_from s limit p l ≡ coming_from s limit (with_piece piece p) r
piece-same s limit p [] l r none open_ came spent =
    let gone = spent refl in
    let kept : l ≡ r =
    came ∙ elim r as (λ o. option_map (λ (rest : List ℕ). [] ++ rest) o ≡ o)
    [ None ↦ refl | Some x ↦ refl ] in
    rw (none, open_) (rw gone (option_map-twice _ _ l ∙ rw (sym kept) refl))
piece-same s limit p (x ∷ xs) l r none open_ came spent =
    let some : nat_eq (suc (length xs)) 0 ≡ false = nat_eq-suc (length xs) in
    rw (none, open_, some, came) (option_map-twice _ _ r)

pub leads-piece : (s : Spot) (n : ℕ) (p q : Place) (l r : Option (List ℕ)) → p.ahead ≡ []
    → p.ended ≡ false → 0 < p.spare → Filled n p l q r → Leads s p l s q r
leads-piece s n p q l r none open_ some filled =
    let piece = filled.piece in
    let within : length piece ≤ p.spare = omega (arith, filled.count, filled.within) in
    let empty : length p.ahead ≡ 0 = rw none refl in
    let gone : length piece ≡ 0 → IsSpent l = λ z. filled.end (omega (arith, filled.count)) in
    rw filled.place (record {
      same = λ limit h. piece-same s limit p piece l r none open_ filled.left gone;
      grows =
          rw open_
          (omega (
            arith,
            le-add_right (p.passed + length piece)
                (cond (nat_eq (length piece) 0) 1 0),
          ));
      limit = omega arith;
    })

word-given : (ahead token more : List ℕ) (ended : Bool) (line : ℕ) (first : Bool) (room : ℕ)
    → 0 < length token → BeginsBlank ahead → (ahead ≡ [] → ended ≡ true)
    → length ahead + cond ended 1 0 ≤ room →
    marks (spot line line first token) room (ahead ++ cond ended [] more)
    ≡ Word line first token ∷ marks (spot line line false []) room (ahead ++ cond ended [] more)
word-given ahead [] more ended line first room some blank ends fits = absurd (omega arith)
word-given [] (w ∷ ws) more ended line first zero some blank ends fits =
    let e = ends refl in
    let fits' = rw e at fits in
    absurd (omega (arith, fits'))
word-given [] (w ∷ ws) more ended line first (suc room) some blank ends fits =
    let e = ends refl in
    rw e refl
word-given (b ∷ bs) (w ∷ ws) more ended line first zero some blank ends fits = absurd (omega arith)
word-given (b ∷ bs) (w ∷ ws) more ended line first (suc room) some blank ends fits =
    word-ends b (bs ++ cond ended [] more) line first w ws room blank

line-given : (ahead more : List ℕ) (line last : ℕ) (first : Bool) (room less : ℕ)
    → BeginsLineEnd ahead → length ahead ≤ room → less ≡ room - 1 →
    marks (spot line last first []) room (ahead ++ more)
    ≡ Break line ∷ marks (spot (line + 1) line true []) less (drop 1 ahead ++ more)
line-given [] more line last first room less feed fits e = absurd feed
line-given (b ∷ bs) more line last first zero less feed fits e = absurd (omega arith)
line-given (b ∷ bs) more line last first (suc room) less feed fits e =
    let same : less ≡ room = omega arith in
    rw (feed, same) refl

word-some : (xs : List ℕ) → BeginsWord xs → 0 < length xs
word-some [] word = absurd word
word-some (x ∷ xs) word = omega arith

begun : (xs : List ℕ) → BeginsWord xs → 0 < length (take (prefix_len in_word xs) xs)
begun [] word = absurd word
begun (x ∷ xs) word =
    let one : in_word x ≡ true = rw word refl in
    rw (prefix_len-yes in_word x xs one) (omega arith)

run-some : (xs : List ℕ) → BeginsWord xs → 0 < prefix_len in_word xs
run-some [] word = absurd word
run-some (x ∷ xs) word =
    let one : in_word x ≡ true = rw word refl in
    rw (prefix_len-yes in_word x xs one) (omega arith)

-- a token came to its end
pub gives-word : (p : Place) (l : Option (List ℕ)) → 0 < length p.token → BeginsBlank p.ahead
    → (p.ahead ≡ [] → p.ended ≡ true) →
    Gives (inside p) (Word p.line p.first p.token) p l (past_token p) l
gives-word p l some blank ends = λ limit h.
    option_map-same _ _ l
    (λ more. word-given p.ahead p.token more p.ended p.line p.first (limit - p.passed) some
    blank ends (omega (arith, h)))
    ∙ sym (option_map-twice _ _ l)

feed-some : (xs : List ℕ) → BeginsLineEnd xs → 0 < length xs
feed-some [] feed = absurd feed
feed-some (x ∷ xs) feed = omega arith

pub gives-line : (p : Place) (l : Option (List ℕ)) → BeginsLineEnd p.ahead
    → Gives (between p) (Break p.line) p l (past_line p) l
gives-line p l feed = λ limit h.
    let some : 0 < length p.ahead = feed-some p.ahead feed in
    let fits : p.passed + 1 + length (drop 1 p.ahead) ≤ limit = omega (arith, h) in
    option_map-same _ _ l
    (λ more. line-given p.ahead (cond p.ended [] more) p.line p.last p.first
    (limit - p.passed) (limit - (p.passed + 1)) feed (omega (arith, length-drop 1 p.ahead))
    (omega arith))
    ∙ sym (option_map-twice _ _ l)

-- a mark after nothing
pub gives-after : (s t : Spot) (m : Mark) (p q o : Place) (l r k : Option (List ℕ))
    → Leads s p l t q r → Gives t m q r o k → known q ≤ known o → Gives s m p l o k
gives-after s t m p q o l r k a b grows = λ limit h. a.same limit (omega (arith, grows)) ∙ b limit h

ended-at : (line last : ℕ) (first : Bool) (room : ℕ) → 0 < room
    → marks (spot line last first []) room [] ≡ Stop line ∷ []
ended-at line last first zero h = absurd (omega arith)
ended-at line last first (suc room) h = refl

-- the text has ended
pub ends-here : (p : Place) (l : Option (List ℕ)) → p.ahead ≡ [] → p.ended ≡ true → (limit : ℕ)
    → known p ≤ limit → Closes limit (between p) (Stop p.line) p l l
ends-here p l none ended limit h =
    let fits = rw (none, ended) at h in
    option_map-same _ _ l
    (λ more. rw (none, ended)
    (ended-at p.line p.last p.first (limit - p.passed) (omega (arith, fits))))

-- nothing more may be looked at
pub cut-here : (s : Spot) (p : Place) (l : Option (List ℕ)) → p.ahead ≡ [] → p.ended ≡ false
    → Closes (taken p) s (Cut s.last) p l l
cut-here s p l none open_ =
    let room : taken p - p.passed ≡ 0 = rw none (omega arith) in
    option_map-same _ _ l (λ more. rw room refl)

pub closes-after : (s t : Spot) (m : Mark) (p q : Place) (l r : Option (List ℕ)) (limit : ℕ)
    → Leads s p l t q r → known q ≤ limit → Closes limit t m q r r → Closes limit s m p l r
closes-after s t m p q l r limit a h b = a.same limit h ∙ b

-- more was taken, between two tokens
pub leads-more : (s : Spot) (n : ℕ) (p q o : Place) (l r k : Option (List ℕ))
    → Leads s p l (between q) q r → q.ahead ≡ [] → q.ended ≡ false → 0 < q.spare
    → Filled n q r o k →
    Leads s p l (between (past_spaces o)) (past_spaces o) k
leads-more s n p q o l r k a none open_ room filled =
    let taken_in = leads-piece (between q) n q o r k none open_ room filled in
    let moved : Leads (between q) q r (between o) o k =
    rw filled.place (rw filled.place at taken_in) in
    leads-then s (between q) (between (past_spaces o)) p q (past_spaces o) l r k a
    (leads-then (between q) (between o) (between (past_spaces o)) q o (past_spaces o) r k k moved
    (leads-spaces o k))

-- more was taken, inside a token
pub leads-on : (s : Spot) (n : ℕ) (p q o : Place) (l r k : Option (List ℕ))
    → Leads s p l (inside q) q r → q.ahead ≡ [] → q.ended ≡ false → 0 < q.spare → Filled n q r o k →
    Leads s p l (inside (past_word o)) (past_word o) k
leads-on s n p q o l r k a none open_ room filled =
    let taken_in = leads-piece (inside q) n q o r k none open_ room filled in
    let moved : Leads (inside q) q r (inside o) o k =
    rw filled.place (rw filled.place at taken_in) in
    leads-then s (inside q) (inside (past_word o)) p q (past_word o) l r k a
    (leads-then (inside q) (inside o) (inside (past_word o)) q o (past_word o) r k k moved
    (leads-word o k))

-- what is still to be looked at falls
pub measure-falls : (n : ℕ) (p o : Place) (r k : Option (List ℕ)) → p.ended ≡ false → 0 < p.spare
    → Filled n p r o k → o.spare + cond o.ended 0 1 < p.spare + cond p.ended 0 1
measure-falls n p o r k open_ room filled =
    rw (filled.place, open_)
    (falls filled.piece p.spare room (omega (arith, filled.count, filled.within)))

-- a first run of a token's bytes
pub leads-first : (p : Place) (l : Option (List ℕ)) → p.token ≡ [] → BeginsWord p.ahead
    → Leads (between p) p l (inside (past_word p)) (past_word p) l
leads-first p l none word =
    leads-then (between p) (inside p) (inside (past_word p)) p p (past_word p) l l l
    (leads-begin p l none (word-some p.ahead word)) (leads-word p l)

pub token-some : (p : Place) → BeginsWord p.ahead → 0 < length (past_word p).token
token-some p word =
    omega (
      arith,
      length-append p.token (take (prefix_len in_word p.ahead) p.ahead),
      begun p.ahead
          word,
    )

pub word-onward : (p : Place) → BeginsWord p.ahead → p.passed < (past_word p).passed
word-onward p word = omega (arith, run-some p.ahead word)

pub token-stays : (p : Place) → 0 < length p.token → 0 < length (past_word p).token
token-stays p some =
    omega (arith, length-append p.token (take (prefix_len in_word p.ahead) p.ahead))

pub line-scanned : (s : Spot) (p q : Place) (l r : Option (List ℕ)) → Leads s p l (between q) q r
    → BeginsLineEnd q.ahead → Gives s (Break q.line) p l (past_line q) r
line-scanned s p q l r a feed =
    let some : 0 < length q.ahead = feed-some q.ahead feed in
    gives-after s (between q) (Break q.line) p q (past_line q) l r r a (gives-line q r feed)
    (omega (arith, length-drop 1 q.ahead))

pub word-scanned : (s : Spot) (p q : Place) (l r : Option (List ℕ)) → Spans s p l q r
    → Gives s (Word q.line q.first q.token) p l (past_token q) r
word-scanned s p q l r a =
    gives-after s (inside q) (Word q.line q.first q.token) p q (past_token q) l r r a.leads
    (gives-word q r a.some a.blank a.ended) (omega arith)

pub end-scanned : (s : Spot) (p q : Place) (l r : Option (List ℕ)) (more : Bool) → more ≡ false
    → Reaches more s p l q r → (limit : ℕ) → known q ≤ limit → Closes limit s (Stop q.line) p l r
end-scanned s p q l r more over a limit h =
    let end = a.none over in
    closes-after s (between q) (Stop q.line) p q l r limit a.leads h
    (ends-here q r end.0 end.1 limit h)

taken-known : (q : Place) → q.ended ≡ false → known q ≡ taken q
taken-known q open_ = rw open_ (omega arith)

closes-from : (s t : Spot) (m : Mark) (p q : Place) (l r k : Option (List ℕ)) (limit : ℕ)
    → Leads s p l t q r → known q ≤ limit → Closes limit t m q r k → Closes limit s m p l k
closes-from s t m p q l r k limit a h b = a.same limit h ∙ b

pub fails-after : (s t : Spot) (e : ScanError) (p q o : Place) (l r k : Option (List ℕ))
    → Leads s p l t q r → known q ≤ known o → Fails t e q r o k → Fails s e p l o k
fails-after s t (errors.TooLong line) p q o l r k a grows b = (
  closes-from s t (Cut line) p q l r k (taken o) a (omega (arith, taken-known o b.2)) b.0,
  b.1,
  b.2,
)
fails-after s t errors.ReadFault p q o l r k a grows b =
    (closes-from s t (Cut o.last) p q l r k (taken o) a (omega (arith, taken-known o b.1)) b.0, b.1)
fails-after s t errors.OutOfMemory p q o l r k a grows b = tt

pub spans-after : (s : Spot) (p q o : Place) (l r k : Option (List ℕ)) → p.passed ≤ q.passed
    → Leads s p l (between q) q r → Spans (between q) q r o k → Spans s p l o k
spans-after s p q o l r k onward a b = record {
  leads = leads-then s (between q) (inside o) p q o l r k a b.leads;
  some = b.some;
  blank = b.blank;
  ended = b.ended;
  onward = omega (arith, onward, b.onward);
}
