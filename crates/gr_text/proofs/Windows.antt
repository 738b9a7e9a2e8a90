-- windows of a buffer
use Rattle.std.proofs.Common.{◌≡◌, ◌∙◌, ℕ, ◌+◌, ◌-◌, ◌≤◌, ◌<◌, Bool, true, false, not, List, ◌++◌, length, take, drop, refl, ap, arith, nat_eq, ◌≢◌}
use Rattle.std.specs.List.{prefix_len}
use Rattle.std.proofs.Math.Seq.{take-add}
use Rattle.std.proofs.lemmas.List.{drop-drop, drop-take, take-take, length-take, length-drop}
use Rattle.std.proofs.lemmas.List.Sums.{prefix_len-le-length}
use Rattle.std.proofs.lemmas.Grind.{common_steps}
use Rattle.gr_text.specs.Tokens.{is_blank}
use Rattle.gr_text.specs.Places.{Place, passing, past_word, past_line}

-- what lies between two places of a buffer
abbrev pub window : ℕ → ℕ → List ℕ → List ℕ
window i j xs = take (j - i) (drop i xs)

pub length_window : (xs : List ℕ) (i j : ℕ) → i ≤ j → j ≤ length xs → length (window i j xs) ≡ j - i
length_window xs i j h g = omega (arith, length-take (j - i) (drop i xs), length-drop i xs)

pub window-rest : (xs : List ℕ) (i n j : ℕ) → i + n ≤ j
    → window (i + n) j xs ≡ drop n (window i j xs)
window-rest xs i n j h =
    let split : j - i ≡ n + (j - (i + n)) = omega arith in
    rw (split, drop-take n (j - (i + n)) (drop i xs), drop-drop n i xs) refl

pub window-joined : (xs : List ℕ) (i j k : ℕ) → i ≤ j → j ≤ k
    → window i k xs ≡ window i j xs ++ window j k xs
window-joined xs i j k h g =
    let split : k - i ≡ (j - i) + (k - j) = omega arith in
    let sum : i + (j - i) ≡ j = omega arith in
    rw (split, take-add (j - i) (k - j) (drop i xs), drop-drop (j - i) i xs, sum) refl

pub window-front : (xs : List ℕ) (i n j : ℕ) → i + n ≤ j
    → window i (i + n) xs ≡ take n (window i j xs)
window-front xs i n j h =
    let within : n ≤ j - i = omega arith in
    let sum : (i + n) - i ≡ n = omega arith in
    rw (sum, take-take n (j - i) (drop i xs) within) refl

pub run-within : (p : ℕ → Bool) (bytes : List ℕ) (to end : ℕ) → to ≤ end → end ≤ length bytes
    → to + prefix_len p (window to end bytes) ≤ end
run-within p bytes to end h g =
    omega (arith, prefix_len-le-length p (window to end bytes), length_window bytes to end h g)

pub grown : (bytes : List ℕ) (from to end n passed spare line last : ℕ) (first ended : Bool)
    → from ≤ to → to ≤ end → end ≤ length bytes
    → n ≡ prefix_len (λ b. not (is_blank b)) (window to end bytes) →
    let before : Place =
    record {
      token = window from to bytes;
      ahead = window to end bytes;
      passed = passed;
      spare = spare;
      line = line;
      last = last;
      first = first;
      ended = ended;
    } in
    let after : Place =
    record {
      token = window from (to + n) bytes;
      ahead = window (to + n) end bytes;
      passed =
          passed + n;
      spare = spare;
      line = line;
      last = line;
      first = first;
      ended = ended;
    } in
    after ≡ past_word before
grown bytes from to end n passed spare line last first ended h g f e =
    let within : to + n ≤ end =
    omega (arith, e, run-within (λ b. not (is_blank b)) bytes to end g f) in
    let token : window from (to + n) bytes ≡ window from to bytes ++ take n (window to end bytes) =
    window-joined bytes from to (to + n) h (omega arith)
    ∙ ap (λ w. window from to bytes ++ w) (window-front bytes to n end within) in
    rw (token, window-rest bytes to n end within, e) refl

-- a run of bytes was passed
pub run-passed : (test : ℕ → Bool) (bytes : List ℕ)
    (from to end n passed spare line last : ℕ) (first ended : Bool)
    → to ≤ end → end ≤ length bytes → n ≡ prefix_len test (window to end bytes) → n ≢ 0 →
    let before : Place = record {
      token = window from to bytes;
      ahead = window to end bytes;
      passed = passed;
      spare = spare;
      line = line;
      last = last;
      first = first;
      ended = ended;
    } in
    let after : Place = record {
      token = window (to + n) (to + n) bytes;
      ahead = window (to + n) end bytes;
      passed = passed + n;
      spare = spare;
      line = line;
      last = line;
      first = first;
      ended = ended;
    } in
    after ≡ passing (prefix_len test (window to end bytes)) before
run-passed test bytes from to end n passed spare line last first ended within fits count some =
    let stays : to + n ≤ end = omega (arith, count, run-within test bytes to end within fits) in
    let nothing : (to + n) - (to + n) ≡ 0 = omega arith in
    let more : nat_eq n 0 ≡ false = grind (arith, common_steps) in
    let more' : nat_eq (prefix_len test (window to end bytes)) 0 ≡ false = rw count at more in
    rw (nothing, window-rest bytes to n end stays, count, more') refl

pub line-passed : (bytes : List ℕ) (from to end passed spare line last : ℕ) (first ended : Bool)
    → to ≤ end → end ≤ length bytes →
    let before : Place =
    record {
      token = window from to bytes;
      ahead = window to end bytes;
      passed = passed;
      spare = spare;
      line = line;
      last = last;
      first = first;
      ended = ended;
    } in
    0 < length before.ahead →
    let after : Place =
    record {
      token = window (to + 1) (to + 1) bytes;
      ahead = window (to + 1) end bytes;
      passed = passed + 1;
      spare = spare;
      line = line + 1;
      last = line;
      first = true;
      ended =
          ended;
    } in
    after ≡ past_line before
line-passed bytes from to end passed spare line last first ended g f some =
    let within : to + 1 ≤ end = omega (arith, length_window bytes to end g f) in
    let nothing : (to + 1) - (to + 1) ≡ 0 = omega arith in
    rw (nothing, window-rest bytes to 1 end within) refl
