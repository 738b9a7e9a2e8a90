-- a window of 50 and its sum, after a push
use Rattle.std.proofs.Common.{◌≡◌, ◌≤◌, ◌<◌, ◌+◌, ◌-◌, ◌++◌, ◌∷◌, [], ℕ, List, length, sum, inl, inr, arith}
use Rattle.std.specs.Prelude.{slice_get, None, unwrap_or, if◌then◌else◌, nat_lt}
use Rattle.std.specs.List.{All}
use Rattle.std.proofs.lemmas.Bool.{cases_lt, lt-ltb, le-ltb}
use Rattle.std.proofs.lemmas.List.Elements.{All-push, All-drop}
use Rattle.std.proofs.lemmas.List.Sums.{sum_by_push, sum_by-cons}
use Rattle.std.proofs.lemmas.List.{length_push, length-drop}
use Rattle.circular_buffer.specs.Buffer.{keep_last}

-- what falls out of the window at a push, or 0
abbrev pub pushed_out : List ℕ → ℕ → ℕ
pushed_out w x = unwrap_or (if nat_lt (length w) 50 then None else slice_get (w ++ x ∷ []) 0) 0

-- nothing falls out of a window that is not full
slid_short : (w : List ℕ) (x : ℕ) → length w < 50
    → sum (keep_last 50 (w ++ x ∷ [])) + pushed_out w x ≡ sum w + x
slid_short w x low =
    let none_more : length (w ++ x ∷ []) - 50 ≡ 0 = omega (arith, length_push w x) in
    let test = lt-ltb (length w) 50 low in
    let total = sum_by_push (λ n. n) w x in
    rw (none_more, test) (omega arith)

-- the first falls out of a full window
slid_full : (w : List ℕ) (x : ℕ) → length w ≡ 50
    → sum (keep_last 50 (w ++ x ∷ [])) + pushed_out w x ≡ sum w + x
slid_full [] x len = absurd (omega arith)
slid_full (z ∷ zs) x len =
    let one_more : length ((z ∷ zs) ++ x ∷ []) - 50 ≡ 1 = omega (arith, length_push (z ∷ zs) x) in
    let test = le-ltb (length (z ∷ zs)) 50 (omega arith) in
    let total = sum_by_push (λ n. n) zs x in
    let first = sum_by-cons (λ n. n) z zs in
    rw (one_more, test) (omega arith)

-- the sum gains what is pushed and loses what falls out
pub slid : (w : List ℕ) (x : ℕ) → length w ≤ 50
    → sum (keep_last 50 (w ++ x ∷ [])) + pushed_out w x ≡ sum w + x
slid w x len = elim (cases_lt (length w) 50) [
  | inl low ↦ slid_short w x low
  | inr full ↦ slid_full w x (omega arith)
]

-- the window has no more than 50
pub still_short : (w : List ℕ) (x : ℕ) → length w ≤ 50 → length (keep_last 50 (w ++ x ∷ [])) ≤ 50
still_short w x len =
    omega (arith, length_push w x, length-drop (length (w ++ x ∷ []) - 50) (w ++ x ∷ []))

-- none is above the bound
pub still_small : (b : ℕ) (w : List ℕ) (x : ℕ) → All (λ y. y ≤ b) w → x ≤ b
    → All (λ y. y ≤ b) (keep_last 50 (w ++ x ∷ []))
still_small b w x all low =
    All-drop (λ y. y ≤ b) (length (w ++ x ∷ []) - 50) (w ++ x ∷ []) (All-push (λ y. y ≤ b) w x all low)
