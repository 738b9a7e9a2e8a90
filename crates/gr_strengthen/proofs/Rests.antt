-- lists that are walked from the front
use Rattle.std.proofs.Common.{◌≡◌, ℕ, zero, suc, ◌-◌, ◌<◌, ◌≤◌, List, [], ◌∷◌, length, take, drop, get_or, refl, sym, ap, arith}

pub take-all : {X : Type 0} (xs : List X) (n : ℕ) → length xs ≤ n → take n xs ≡ xs
take-all [] zero h = refl
take-all [] (suc n) h = refl
take-all (x ∷ xs) zero h = absurd (omega arith)
take-all (x ∷ xs) (suc n) h = ap (λ ys. x ∷ ys) (take-all xs n (omega arith))

-- the first of a list and what is behind it
pub split-first : {X : Type 0} (xs : List X) (x : X) → 1 ≤ length xs → x ≡ get_or xs 0 x
    → xs ≡ x ∷ take (length xs - 1) (drop 1 xs)
split-first [] x some is = absurd (omega arith)
split-first (y ∷ ys) x some is =
    let rest : take (length (y ∷ ys) - 1) ys ≡ ys = take-all ys (length (y ∷ ys) - 1) (omega arith) in
    λ i. sym is i ∷ sym rest i

pub no-more : {X : Type 0} (xs : List X) → length xs < 1 → xs ≡ []
no-more [] h = refl
no-more (x ∷ xs) h = absurd (omega arith)
