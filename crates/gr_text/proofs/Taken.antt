-- what was taken from the source
use Rattle.std.proofs.Common.{◌≡◌, ℕ, ◌+◌, ◌≤◌, ◌<◌, List, [], ◌++◌, length, drop, refl, ap, sym, arith, Option, Some, None, not}
use Rattle.std.specs.List.{prefix_len}
use Rattle.std.proofs.lemmas.List.{length-append, length-drop, append_assoc}
use Rattle.std.proofs.lemmas.List.Sums.{prefix_len-le-length}
use Rattle.gr_io.specs.Pieces.{ComesOff}
use Rattle.gr_text.specs.Tokens.{is_space, is_blank, is_line_feed}
use Rattle.gr_text.specs.Places.{Place, passing, taken, past_spaces, past_word, past_rest, past_line, Filled, Takes}

comes_off_nothing : (o : Option (List ℕ)) → ComesOff [] o o
comes_off_nothing None = refl
comes_off_nothing (Some x) = refl

comes_off_then : (a b : List ℕ) (l r k : Option (List ℕ)) → ComesOff a l r → ComesOff b r k
    → ComesOff (a ++ b) l k
comes_off_then a b l r None first second = rw (first, second) refl
comes_off_then a b l r (Some rest) first second =
    rw (first, second) (ap Some (sym (append_assoc a b rest)))

-- nothing was taken
pub takes-nothing : (p q : Place) (l : Option (List ℕ)) → taken q ≡ taken p → Takes p l q l
takes-nothing p q l same = record { piece = []; count = omega arith; left = comes_off_nothing l }

pub takes-then : (p q o : Place) (l r k : Option (List ℕ)) → Takes p l q r → Takes q r o k
    → Takes p l o k
takes-then p q o l r k first second = record {
  piece = first.piece ++ second.piece;
  count = omega (arith, first.count, second.count, length-append first.piece second.piece);
  left = comes_off_then first.piece second.piece l r k first.left second.left;
}

-- n of the bytes ahead are passed
pub after-drop : (xs : List ℕ) (n : ℕ) → n ≤ length xs → n + length (drop n xs) ≡ length xs
after-drop xs n h = omega (arith, length-drop n xs)

-- bytes that are passed were taken before
same-passing : (n : ℕ) (p : Place) → n ≤ length p.ahead → taken (passing n p) ≡ taken p
same-passing n p within =
    let rest : n + length (drop n p.ahead) ≡ length p.ahead = after-drop p.ahead n within in
    omega arith

pub same-spaces : (p : Place) → taken (past_spaces p) ≡ taken p
same-spaces p = same-passing _ p (prefix_len-le-length is_space p.ahead)

pub same-rest : (p : Place) → taken (past_rest p) ≡ taken p
same-rest p = same-passing _ p (prefix_len-le-length (λ b. not (is_line_feed b)) p.ahead)

pub same-word : (p : Place) → taken (past_word p) ≡ taken p
same-word p =
    let n = prefix_len (λ b. not (is_blank b)) p.ahead in
    let rest : n + length (drop n p.ahead) ≡ length p.ahead =
    after-drop p.ahead n (prefix_len-le-length (λ b. not (is_blank b)) p.ahead) in
    omega arith

pub same-line : (p : Place) → 0 < length p.ahead → taken (past_line p) ≡ taken p
same-line p some = omega (arith, length-drop 1 p.ahead)

-- as many bytes were taken as the source gave
pub filled-count : (n : ℕ) (q o : Place) (r k : Option (List ℕ)) → q.ahead ≡ [] → Filled n q r o k
    → taken o ≡ taken q + n
filled-count n q o r k none filled =
    let empty : length q.ahead ≡ 0 = rw none refl in
    rw filled.place (omega (arith, empty, filled.count))

-- a piece was taken where nothing was ahead
pub filled-takes : (n : ℕ) (q o : Place) (r k : Option (List ℕ)) → q.ahead ≡ [] → Filled n q r o k
    → Takes q r o k
filled-takes n q o r k none filled =
    let empty : length q.ahead ≡ 0 = rw none refl in
    record {
      piece = filled.piece;
      count = rw filled.place (omega (arith, empty));
      left = filled.left;
    }
